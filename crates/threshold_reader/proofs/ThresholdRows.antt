-- The rows of a threshold text, line by line into a list.
use Rattle.std.specs.Prelude.{Result, Ok, Err}
use Rattle.model.specs.declared.refusal.Fault.{Fault}
use Rattle.model.specs.declared.refusal.Refusal.{Refusal}
use Rattle.model.specs.declared.refusal.Fault.TheVariants.{BadThresholds, NoHeader}
use mathlib.Core.Bool.{false}
use mathlib.Core.List.{List, [], ◌∷◌}
use mathlib.Core.Path.{◌≡◌, refl, sym, ◌∙◌}
use Prim.Native.Nat.{ℕ, suc, ◌+◌, ◌≤◌, ◌<◌}
use native.Mathlib.Numerals.{add-one}
use native.Mathlib.Omega.{arith}
use borrow.Author.Tests.{ltb-true}
use lib.ListN.{length, take}
use lib.Seq.{length-take-le}
use Rattle.model.specs.Limits.{max_thresholds}
use Rattle.text.specs.Fields.{same_bytes_of}
use Rattle.text.specs.Lines.{csv_lines}
use Rattle.text.proofs.Laws.Lines.{NextLine}
use Rattle.text.specs.Reading.{taken, refused, read, refused_at, read_lines, require}
use Rattle.text.specs.ThresholdText.{ThresholdState, before_header, values, take_threshold_of, take_number_of, threshold_step, threshold_end, threshold_lines, threshold_header}
use Rattle.text.specs.declared.fields.Numbers.{Numbers}
use Rattle.text.specs.declared.fields.Numbers.TheVariants.{Nothing, One, Two, Three}
use Rattle.reading.specs.Header.{is_headed}
use Rattle.reading.proofs.Headed.{RowsAt}
use Rattle.reading.specs.Answers.{entries}
use Rattle.reading.proofs.Headed.{no_lines, rows_left, no_rows, one-line-more, rows_are}
use Rattle.reading.proofs.Progress.{Progress, rest, begins, goes_on, stops, all_read, end-place}
use Rattle.reading.proofs.Require.{passed}
use Rattle.threshold_reader.specs.Steps.{thresholds_after, thresholds_in, ThresholdRows, ThresholdsTaken}

-- a threshold that is taken is within the limit and above the one before
pub taken-within : (before : List ℕ) (numbers : Numbers) {s : ThresholdState} → take_number_of before numbers ≡ taken s → length before < max_thresholds
unfolding take_number_of take_threshold_of
taken-within before Nothing e = absurd (let z : ◌≡◌ {A = ℕ} 0 1 = cc in omega arith)
taken-within before (One t) e = ltb-true _ _ (passed BadThresholds _ e).0
taken-within before (Two x y) e = absurd (let z : ◌≡◌ {A = ℕ} 0 1 = cc in omega arith)
taken-within before (Three x y z) e = absurd (let z : ◌≡◌ {A = ℕ} 0 1 = cc in omega arith)

-- the loop has read count rows into the list and stands at a byte
pub record ThresholdsSoFar (rows list : List ℕ) (at count : ℕ) : Type 0 where
  pub few : count ≤ max_thresholds
  pub room : max_thresholds ≤ length list
  pub progress : Progress csv_lines threshold_step 2 (values []) rows (values (take count list)) at (count + 2)

pub rows-begin : (rows list : List ℕ) → max_thresholds ≤ length list → ThresholdsSoFar rows list 0 0
rows-begin rows list room = record { few = omega arith; room = room; progress = begins csv_lines threshold_step 2 (values []) rows }

-- A row, from what a line's step answers.
module _ {rows list list' : List ℕ} {at count end onward : ℕ} {r : Result (Unit {0}) Fault} (t : ThresholdsSoFar rows list at count) (h : at < length rows) (n : NextLine csv_lines (rest rows at) end onward) (e : threshold_step (values (take count list)) (take end (rest rows at)) ≡ thresholds_after r count list') where
  -- it is taken
  pub row-taken : r ≡ Ok tt → length list' ≡ length list → ThresholdsSoFar rows list' (at + onward) (count + 1)
  unfolding thresholds_after threshold_step
  row-taken is long =
      let after : threshold_step (values (take count list)) (take end (rest rows at)) ≡ taken (values (take (suc count) list')) = e ∙ rw is in
      let few : length (take count list) < max_thresholds = taken-within _ _ after in
      record {
        few = omega (arith, t.few, t.room, length-take-le count list (omega (arith, t.few, t.room)));
        room = omega (arith, t.room);
        progress = goes_on t.progress h n (rw add-one after) (omega arith);
      }

  -- it is refused
  pub row-refused : {fault : Fault} → r ≡ Err fault → ThresholdRows rows (Err (record { fault = fault; place = count + 2 })) list'
  unfolding thresholds_after thresholds_in threshold_end entries
  row-refused {fault} is =
      record {
        outcome = let after : threshold_step (values (take count list)) (take end (rest rows at)) ≡ refused fault = e ∙ rw is in rw (stops t.progress h n after);
        few = omega arith;
      }

-- at the end some thresholds are asked for
none_read : (place : ℕ) (list : List ℕ) (count : ℕ) → count ≡ 0 → threshold_end place (read (values (take count list))) ≡ refused_at BadThresholds place
unfolding threshold_end
none_read place list count e = rw e

some_read : (place : ℕ) (xs : List ℕ) → (length xs ≡ 0 → ⊥) → threshold_end place (read (values xs)) ≡ read xs
unfolding threshold_end
some_read place [] some = absurd (some refl)
some_read place (t ∷ ts) some = refl

module _ {rows list : List ℕ} {at count : ℕ} (t : ThresholdsSoFar rows list at count) (end : length rows ≤ at) where
  -- what the rows come to, before the end is looked at
  at-end : threshold_end (suc (suc (length (csv_lines rows)))) (read_lines threshold_step 2 (values []) (csv_lines rows)) ≡ threshold_end (count + 2) (read (values (take count list)))
  at-end =
      let place : suc (suc (length (csv_lines rows))) ≡ count + 2 = omega (arith, end-place t.progress no_lines end) in
      rw (place, all_read t.progress no_lines end)

  pub rows_none : count ≡ 0 → ThresholdRows rows (Err (record { fault = BadThresholds; place = 2 })) list
  unfolding thresholds_in entries
  rows_none e = record { outcome = at-end ∙ none_read (count + 2) list count e ∙ rw e; few = omega arith }

  pub rows-some : (count ≡ 0 → ⊥) → ThresholdRows rows (Ok count) list
  unfolding thresholds_in entries
  rows-some some =
      let long : length (take count list) ≡ count = length-take-le count list (omega (arith, t.few, t.room)) in
      record { outcome = at-end ∙ some_read (count + 2) (take count list) (λ e. some (sym long ∙ e)); few = t.few }

-- the first step asks for the header
asks : (line : List ℕ) → threshold_step before_header line ≡ require (same_bytes_of line threshold_header) NoHeader (taken (values []))
unfolding threshold_step
asks line = refl

no-header : (lines : List (List ℕ)) → is_headed threshold_header lines ≡ false → threshold_lines lines ≡ refused_at NoHeader 1
unfolding threshold_lines threshold_end read_lines
no-header [] e = refl
no-header (line ∷ more) e = rw (no_rows threshold_header threshold_step before_header (values []) asks line more e)

-- a text with no header is refused
pub text-refused : (bytes list : List ℕ) → is_headed threshold_header (csv_lines bytes) ≡ false → ThresholdsTaken bytes (Err (record { fault = NoHeader; place = 1 })) list
unfolding thresholds_in entries
text-refused bytes list e = record { outcome = no-header (csv_lines bytes) e; few = omega arith }

-- a text comes to what its rows come to
pub text-taken : {bytes list : List ℕ} {n : ℕ} {r : Result ℕ Refusal} → RowsAt threshold_header bytes n → ThresholdRows (rest bytes n) r list → ThresholdsTaken bytes r list
unfolding threshold_lines
text-taken {bytes} h t =
    record {
      outcome = rw (one-line-more threshold_header (csv_lines bytes) h.headed, rows_left threshold_header threshold_step before_header (values []) asks (csv_lines bytes) h.headed, ← rows_are threshold_header bytes h) t.outcome;
      few = t.few;
    }
