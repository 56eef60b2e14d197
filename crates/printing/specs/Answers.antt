-- What the printing functions answer and leave in the list of bytes.
use Rattle.std.specs.Prelude.{Bool, true, false, List, [], ◌++◌, ◌≡◌, ℕ, zero, suc, length, get_or, Result}
use Rattle.model.specs.Answer.{answer, written}
use Rattle.model.specs.Checks.{same_length_of, room_check, thresholds_check}
use Rattle.model.specs.Envelope.{Envelope, no_value, between}
use Rattle.model.specs.Refusal.{or_else, Check}
use Rattle.model.specs.declared.refusal.Refusal.{Refusal}
use Rattle.text.specs.Lines.{line_end_of}
use Rattle.printing.specs.Bytes.{header, row, refusal_line}

-- the envelope at one threshold, from two lists beside the counts
unfoldable pub envelope_at : Bool → List ℕ → List ℕ → ℕ → Envelope
envelope_at true lower upper k = between (get_or lower k 0) (get_or upper k 0)
envelope_at false lower upper k = no_value

-- the rows of n thresholds from number k on
unfoldable pub rows : Bool → List ℕ → List ℕ → List ℕ → List ℕ → ℕ → ℕ → List ℕ
rows comparisons ts observed lower upper k zero = []
rows comparisons ts observed lower upper k (suc n) =
    row (get_or ts k 0) (get_or observed k 0) (envelope_at comparisons lower upper k) ++ rows comparisons ts observed lower upper (suc k) n

unfoldable pub table_bytes : Bool → List ℕ → List ℕ → List ℕ → List ℕ → List ℕ
table_bytes comparisons ts observed lower upper = header ++ (line_end_of ++ rows comparisons ts observed lower upper 0 (length ts))

-- 2: the lists differ in length; without comparison sets least and greatest are not looked at
unfoldable pub columns_check : Bool → List ℕ → List ℕ → List ℕ → List ℕ → Check
columns_check true ts observed lower upper = or_else (same_length_of ts observed) (or_else (same_length_of ts lower) (same_length_of ts upper))
columns_check false ts observed lower upper = same_length_of ts observed

-- 2 for the lists, and where the list of bytes is too short; then 18 and 19
unfoldable pub table_bytes_check : Bool → List ℕ → List ℕ → List ℕ → List ℕ → List ℕ → Check
table_bytes_check comparisons ts observed lower upper out =
    or_else (columns_check comparisons ts observed lower upper)
    (or_else (room_check (length (table_bytes comparisons ts observed lower upper)) out) (thresholds_check ts))

pub record TablePrinted (comparisons : Bool) (ts observed lower upper out : List ℕ) (r : Result ℕ Refusal) (out' : List ℕ) : Type 0 where
  pub answer : r ≡ answer (table_bytes_check comparisons ts observed lower upper out) (length (table_bytes comparisons ts observed lower upper))
  pub after : out' ≡ written (table_bytes_check comparisons ts observed lower upper out) (table_bytes comparisons ts observed lower upper) out

pub record RefusalPrinted (file : List ℕ) (number place : ℕ) (out : List ℕ) (r : Result ℕ Refusal) (out' : List ℕ) : Type 0 where
  pub answer : r ≡ answer (room_check (length (refusal_line file number place)) out) (length (refusal_line file number place))
  pub after : out' ≡ written (room_check (length (refusal_line file number place)) out) (refusal_line file number place) out
