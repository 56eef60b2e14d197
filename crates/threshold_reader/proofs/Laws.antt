-- The thresholds of an accepted text pass the check that later functions make.
use Rattle.model.specs.Refusal.{accepted}
use Rattle.model.specs.declared.refusal.Fault.TheVariants.{BadThresholds, NoHeader, NotRising}
use mathlib.Core.Bool.{true}
use mathlib.Core.List.{List, [], ◌∷◌, ◌++◌}
use mathlib.Core.Logic.{⊎_elim}
use mathlib.Core.Path.{◌≡◌, refl, ap, ◌∙◌}
use Prim.Native.Nat.{ℕ, suc, pred, ◌-◌, ◌≤◌, ◌<◌}
use native.Mathlib.Nat.{eq-or-lt_of_le}
use native.Mathlib.Numerals.{sub-one}
use native.Mathlib.Omega.{arith}
use borrow.Author.Tests.{ltb-true}
use lib.Dec.{ltb}
use lib.ListN.{length, get_or, length-append, get_or-append}
use lib.Seq.{get_or-append_seam, take-length}
use Rattle.model.proofs.Laws.Checks.{thresholds-accepts}
use Rattle.model.proofs.Laws.Refusal.{both-accepted}
use Rattle.model.specs.Checks.{thresholds_check}
use Rattle.model.specs.Limits.{max_thresholds}
use Rattle.text.specs.Lines.{csv_lines}
use Rattle.text.specs.Reading.{taken, Outcome, read, refused_at, read_lines, length_check}
use Rattle.text.specs.ThresholdText.{ThresholdState, before_header, values, above_last, take_threshold_of, take_number_of, threshold_step, threshold_end, threshold_lines}
use Rattle.text.specs.declared.fields.Numbers.{Numbers}
use Rattle.text.specs.declared.fields.Numbers.TheVariants.{Nothing, One, Two, Three}
use Rattle.reading.proofs.Laws.Answers.{list_read}
use Rattle.reading.proofs.Laws.Kept.{all-kept}
use Rattle.reading.proofs.Require.{passed}
use Rattle.threshold_reader.specs.Answers.{text_thresholds, threshold_file_check}
use Rattle.threshold_reader.proofs.ThresholdSteps.{above-some}

-- not too many, and each above the one before it
pub record Rising (xs : List ℕ) : Type 0 where
  pub few : length xs ≤ max_thresholds
  pub above : (k : ℕ) → 1 ≤ k → k < length xs → ltb (get_or xs (pred k) 0) (get_or xs k 0) ≡ true

none-rise : Rising []
none-rise = record { few = omega arith; above = λ k l h. absurd (omega arith) }

-- one more that is above the last
rising-more : (xs : List ℕ) (t : ℕ) → Rising xs → length xs < max_thresholds → above_last xs t ≡ true → Rising (xs ++ (t ∷ []))
rising-more xs t g room e =
    let long : length (xs ++ (t ∷ [])) ≡ suc (length xs) = length-append xs (t ∷ []) ∙ omega arith in
    record {
      few = omega arith;
      above = λ k l h.
          let before : get_or (xs ++ (t ∷ [])) (pred k) 0 ≡ get_or xs (pred k) 0 = get_or-append xs (t ∷ []) 0 (pred k) (omega arith) in
          let up : k ≤ length xs = omega arith in
          ⊎_elim
          (λ last. at-end k l last before)
          (λ less. rw (before, get_or-append xs (t ∷ []) 0 k less) (g.above k l less))
          (eq-or-lt_of_le up);
    }
  where
    at-end : (k : ℕ) → 1 ≤ k → k ≡ length xs → get_or (xs ++ (t ∷ [])) (pred k) 0 ≡ get_or xs (pred k) 0 → ltb (get_or (xs ++ (t ∷ [])) (pred k) 0) (get_or (xs ++ (t ∷ [])) k 0) ≡ true
    at-end k l last before =
        let some : length xs ≡ 0 → ⊥ = λ z. omega arith in
        let at : get_or (xs ++ (t ∷ [])) k 0 ≡ t = ap (λ (n : ℕ). get_or (xs ++ (t ∷ [])) n 0) last ∙ get_or-append_seam xs t [] 0 in
        let is : ltb (get_or xs (length xs - 1) 0) t ≡ true = above-some xs (length xs) t some (omega arith) ∙ ap (λ (l : List ℕ). above_last l t) (take-length xs) ∙ e in
        rw (before, at, last, ← sub-one (length xs)) is

-- of what was read so far
data StateRising : ThresholdState → Type 0 where
  none_yet : StateRising before_header
  some : {xs : List ℕ} → Rising xs → StateRising (values xs)

rising-of : {xs : List ℕ} → StateRising (values xs) → Rising xs
rising-of (some g) = g

-- one more line keeps it
number-keeps : (xs : List ℕ) (numbers : Numbers) (s' : ThresholdState) → Rising xs → take_number_of xs numbers ≡ taken s' → StateRising s'
unfolding take_number_of take_threshold_of
number-keeps xs Nothing s' g e = absurd (let z : ◌≡◌ {A = ℕ} 0 1 = cc in omega arith)
number-keeps xs (One t) s' g e =
    let one = passed BadThresholds (ltb (length xs) max_thresholds) e in
    let two = passed NotRising (above_last xs t) one.1 in
    let is : values (xs ++ (t ∷ [])) ≡ s' = cc two.1 in
    rw (← is) (some (rising-more xs t g (ltb-true _ _ one.0) two.0))
number-keeps xs (Two x y) s' g e = absurd (let z : ◌≡◌ {A = ℕ} 0 1 = cc in omega arith)
number-keeps xs (Three x y z) s' g e = absurd (let z : ◌≡◌ {A = ℕ} 0 1 = cc in omega arith)

line-keeps : (s : ThresholdState) (line : List ℕ) (s' : ThresholdState) → StateRising s → threshold_step s line ≡ taken s' → StateRising s'
unfolding threshold_step
line-keeps before_header line s' g e = let is : values [] ≡ s' = cc (passed NoHeader _ e).1 in rw (← is) (some none-rise)
line-keeps (values xs) line s' (some g) e = number-keeps xs _ s' g e

-- so the thresholds of a text that is read rise, and there is one at least
pub read-rising : (lines : List (List ℕ)) (all : List ℕ) → threshold_lines lines ≡ read all → Rising all × (1 ≤ length all)
unfolding threshold_lines threshold_end
read-rising lines all e =
    by (read_lines threshold_step 1 before_header lines) (λ s is. all-kept threshold_step StateRising line-keeps 1 before_header lines none_yet is) e
  where
    by : (o : Outcome ThresholdState) → ((s : ThresholdState) → o ≡ read s → StateRising s) → threshold_end (suc (length lines)) o ≡ read all → Rising all × (1 ≤ length all)
    by (read before_header) good f = absurd (let z : ◌≡◌ {A = ℕ} 0 1 = cc in omega arith)
    by (read (values [])) good f = absurd (let z : ◌≡◌ {A = ℕ} 0 1 = cc in omega arith)
    by (read (values (t ∷ ts))) good f =
        let is : t ∷ ts ≡ all = cc in
        rw (← is) (rising-of (good (values (t ∷ ts)) refl), omega arith)
    by (refused_at fault place) good f = absurd (let z : ◌≡◌ {A = ℕ} 0 1 = cc in omega arith)

-- The thresholds of a text that is accepted pass 18 and 19.
pub rising-pass : (xs : List ℕ) → Rising xs → 1 ≤ length xs → thresholds_check xs ≡ accepted
rising-pass xs g one =
    thresholds-accepts xs
    (record { some = one; few = g.few; rising = λ k h. ltb-true (get_or xs k 0) (get_or xs (suc k) 0) (g.above (suc k) (omega arith) h) })

pub thresholds_pass : (bytes : List ℕ) → threshold_file_check bytes ≡ accepted → thresholds_check (text_thresholds bytes) ≡ accepted
unfolding threshold_file_check text_thresholds
thresholds_pass bytes e =
    let lines = (both-accepted (length_check bytes) _ e).1 in
    let all = read-rising (csv_lines bytes) (text_thresholds bytes) (list_read _ lines) in
    rising-pass (text_thresholds bytes) all.0 all.1
