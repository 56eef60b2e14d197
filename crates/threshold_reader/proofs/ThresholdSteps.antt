-- The steps of reading thresholds into a list.
use Rattle.model.specs.declared.refusal.Fault.TheVariants.{BadThresholds, NotRising}
use mathlib.Core.Bool.{true, false}
use mathlib.Core.List.{List, [], ◌∷◌, ◌++◌}
use mathlib.Core.Path.{◌≡◌, refl, sym, ap, ◌∙◌}
use Prim.Native.Nat.{ℕ, zero, suc, ◌-◌, ◌≤◌, ◌<◌}
use native.Mathlib.Numerals.{sub-one}
use borrow.Author.Tests.{lt-ltb, le-ltb}
use lib.Dec.{ltb}
use lib.ListN.{length, take, set, get_or}
use lib.Seq.{take-suc, take-suc-set, length-take-le}
use Rattle.model.specs.Limits.{max_thresholds}
use Rattle.text.specs.Reading.{refused, taken}
use Rattle.text.specs.ThresholdText.{above_last, take_threshold_of, values}
use Rattle.reading.proofs.Require.{holds, fails}

-- the last of a list is the one put behind it
above-snoc : (xs : List ℕ) (s t : ℕ) → above_last (xs ++ (s ∷ [])) t ≡ ltb s t
unfolding above_last
above-snoc [] s t = refl
above-snoc (x ∷ []) s t = refl
above-snoc (x ∷ x' ∷ xs) s t = above-snoc (x' ∷ xs) s t

-- of no thresholds nothing is asked
pub above-none : (list : List ℕ) (count t : ℕ) → count ≡ 0 → true ≡ above_last (take count list) t
unfolding above_last
above-none list count t e = rw e

-- of some the last is asked
pub above-some : (list : List ℕ) (count t : ℕ) → (count ≡ 0 → ⊥) → count ≤ length list → ltb (get_or list (count - 1) 0) t ≡ above_last (take count list) t
above-some list zero t some fits = absurd (some refl)
above-some list (suc k) t some fits =
    rw sub-one (sym (ap (λ (l : List ℕ). above_last l t) (take-suc list k 0 fits) ∙ above-snoc (take k list) (get_or list k 0) t))

-- The first count entries of a list hold the thresholds so far.
module _ (list : List ℕ) (count t : ℕ) (fits : count ≤ length list) where
  -- 18
  pub one-too-many : max_thresholds ≤ count → take_threshold_of (take count list) t ≡ refused BadThresholds
  unfolding take_threshold_of
  one-too-many h = fails BadThresholds _ (rw (length-take-le count list fits) (le-ltb _ _ h))

  -- 19
  pub not-above : count < max_thresholds → above_last (take count list) t ≡ false → take_threshold_of (take count list) t ≡ refused NotRising
  unfolding take_threshold_of
  not-above h e = holds BadThresholds (rw (length-take-le count list fits) (lt-ltb _ _ h)) (fails NotRising _ e)

  -- one more, stored behind the others
  pub threshold-taken : count < max_thresholds → count < length list → above_last (take count list) t ≡ true → take_threshold_of (take count list) t ≡ taken (values (take (suc count) (set list count t)))
  unfolding take_threshold_of
  threshold-taken h room e =
      holds BadThresholds (rw (length-take-le count list fits) (lt-ltb _ _ h))
      (holds NotRising e (rw (take-suc-set list count t room)))
