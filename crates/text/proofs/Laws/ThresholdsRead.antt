-- The text of thresholds within the limits is accepted, and they are read back from it.
use Rattle.model.specs.Refusal.{accepted}
use Rattle.model.specs.declared.refusal.Fault.TheVariants.{BadThresholds, NotRising}
use mathlib.Core.Bool.{true}
use mathlib.Core.List.{List, [], ◌∷◌, ◌++◌, map}
use mathlib.Core.Path.{◌≡◌, refl, ap, ◌∙◌}
use Prim.Native.Nat.{ℕ, suc, ◌+◌, ◌≤◌, ◌<◌}
use native.Mathlib.Omega.{arith}
use borrow.Author.Tests.{lt-ltb}
use lib.ListN.{length, get_or, length-append}
use lib.Seq.{get_or-append_seam}
use Rattle.model.proofs.Laws.Checks.{ThresholdsAccepted, thresholds-accepted}
use Rattle.model.specs.Checks.{thresholds_check}
use Rattle.model.specs.Limits.{max_thresholds}
use Rattle.text.specs.Fields.{comma, same_bytes_of}
use Rattle.text.specs.Lines.{carriage_return, csv_lines}
use Rattle.text.specs.Numbers.{max_number}
use Rattle.text.specs.Reading.{taken, read, read_lines, require}
use Rattle.text.specs.ThresholdText.{threshold_header, values, before_header, above_last, take_threshold_of, take_number_of, threshold_step, threshold_end, threshold_lines}
use Rattle.text.specs.Digits.{digits}
use Rattle.text.specs.Texts.{threshold_text, IsThresholdText, lacks}
use Rattle.text.proofs.Laws.Lacking.{digits-lack, digits-some}
use Rattle.text.proofs.Laws.TextFields.{read_one}
use Rattle.text.proofs.Laws.TextLines.{Plain, one_more, map-plain, csv-plain}
use Rattle.text.proofs.Laws.TextRows.{holds, goes_on, rows-read}

-- in a list that rises an entry is above the last of those before it
above-last : (before : List ℕ) (t : ℕ) (rest : List ℕ) → ((k : ℕ) → suc k < length (before ++ (t ∷ rest)) → get_or (before ++ (t ∷ rest)) k 0 < get_or (before ++ (t ∷ rest)) (suc k) 0) → above_last before t ≡ true
unfolding above_last
above-last [] t rest rising = refl
above-last (s ∷ []) t rest rising = lt-ltb s t (rising 0 (omega arith))
above-last (s ∷ s' ∷ more) t rest rising = above-last (s' ∷ more) t rest (λ k h. rising (suc k) (omega arith))

-- the header is read back
header-plain : Plain carriage_return threshold_header
unfolding lacks
header-plain = record { free = refl; some = omega arith }

-- and a line with a number
number-plain : (t : ℕ) → Plain carriage_return (digits t)
number-plain t = record { free = digits-lack carriage_return (omega arith) t; some = digits-some t }

module _ (ts : List ℕ) (good : ThresholdsAccepted ts) (small : (k : ℕ) → k < length ts → get_or ts k 0 ≤ max_number) where
  -- each is taken behind those before it
  one-taken : (before : List ℕ) (t : ℕ) (rest : List ℕ) → ts ≡ before ++ (t ∷ rest) → threshold_step (values before) (digits t) ≡ taken (values (before ++ (t ∷ [])))
  unfolding threshold_step take_number_of take_threshold_of
  one-taken before t rest e =
      let long : length ts ≡ length before + suc (length rest) = ap length e ∙ length-append before (t ∷ rest) in
      let here : get_or ts (length before) 0 ≡ t = rw e (get_or-append_seam before t rest 0) in
      let fits : t ≤ max_number = rw here at (small (length before) (omega arith)) in
      ap (take_number_of before) (read_one comma (omega arith) t fits)
      ∙ holds BadThresholds (lt-ltb (length before) max_thresholds (omega (arith, good.few)))
      (holds NotRising (above-last before t rest (rw e at good.rising)) refl)

  -- the header and all of them
  all-taken : read_lines threshold_step 1 before_header (threshold_header ∷ map digits ts) ≡ read (values ts)
  unfolding threshold_step require same_bytes_of
  all-taken =
      goes_on threshold_step 1 {s = before_header} {s' = values []} threshold_header (map digits ts) refl
      ∙ rows-read threshold_step values digits ts one-taken 2

-- some thresholds are what was read
some_read : (place : ℕ) (ts : List ℕ) → 1 ≤ length ts → threshold_end place (read (values ts)) ≡ read ts
unfolding threshold_end
some_read place [] some = absurd (omega arith)
some_read place (t ∷ ts) some = refl

-- Thresholds that pass the check of a threshold list, and are no greater than a number in a text may be, in any text of them: the
-- text is accepted, and they are read.
pub thresholds-read : {ts bytes : List ℕ} → IsThresholdText ts bytes → thresholds_check ts ≡ accepted → ((k : ℕ) → k < length ts → get_or ts k 0 ≤ max_number) → threshold_lines (csv_lines bytes) ≡ read ts
unfolding threshold_text threshold_lines
thresholds-read {ts} is-text accepted small =
    let good = thresholds-accepted ts accepted in
    rw (is-text.is, csv-plain is-text.closed (one_more header-plain (map-plain carriage_return digits number-plain ts)), all-taken ts good small) (some_read _ ts good.some)
