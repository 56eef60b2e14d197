-- Laws of the lists of a case: passing one after the other.
use mathlib.Core.List.{List, [], ◌∷◌}
use mathlib.Core.Path.{◌≡◌, sym, ap, ◌∙◌}
use Prim.Native.Nat.{ℕ, zero, suc, ◌+◌, ◌-◌, ◌≤◌, ◌<◌, min}
use native.Mathlib.Nat.{zero-min, suc-min-suc, add-zero}
use native.Mathlib.Omega.{arith}
use lib.ListN.{length, get_or, take, drop, length-drop, drop_of_length-le}
use lib.Seq.{take-nil, drop-nil, get_or-drop, drop-drop}
use Rattle.cases.specs.Lists.{list_of}

-- what is taken, and what is left, does not go behind the end
take_min : (n : ℕ) (l : List ℕ) → take (min n (length l)) l ≡ take n l
take_min zero l = rw zero-min
take_min (suc n) [] = take-nil (min (suc n) 0) ∙ sym (take-nil (suc n))
take_min (suc n) (x ∷ xs) = rw suc-min-suc (ap (λ (l : List ℕ). x ∷ l) (take_min n xs))

drop_min : (n : ℕ) (l : List ℕ) → drop (min n (length l)) l ≡ drop n l
drop_min zero l = rw zero-min
drop_min (suc n) [] = drop-nil (min (suc n) 0) ∙ sym (drop-nil (suc n))
drop_min (suc n) (x ∷ xs) = rw suc-min-suc (drop_min n xs)

-- k lists are passed, and the next one begins at a place
pub record Passed (lists : List ℕ) (number at k : ℕ) : Type 0 where
  pub inside : at ≤ length lists
  pub counted : k ≤ number
  pub onward : list_of number lists ≡ list_of (number - k) (drop at lists)

-- where the list that begins at a place ends
abbrev pub end_at : List ℕ → ℕ → ℕ
end_at lists at = min (at + (get_or lists at 0 + 1)) (length lists)

module _ {lists : List ℕ} {number at k : ℕ} (passed : Passed lists number at k) where
  count_at : get_or (drop at lists) 0 0 ≡ get_or lists at 0
  count_at = get_or-drop at lists 0 0 ∙ rw add-zero

  pub pass-one : (next : ℕ) → next ≡ end_at lists at → k < number → Passed lists number next (k + 1)
  unfolding list_of
  pass-one next e h =
      let left : number - k ≡ suc (number - (k + 1)) = omega arith in
      let behind : drop (get_or (drop at lists) 0 0 + 1) (drop at lists) ≡ drop next lists = rw (count_at, drop-drop, e, drop_min) in
      record {
        inside = omega arith;
        counted = omega arith;
        onward = passed.onward ∙ ap (λ (m : ℕ). list_of m (drop at lists)) left ∙ ap (list_of (number - (k + 1))) behind;
      }

  -- all are passed: the list stands behind its length
  module _ (h : number ≤ k) where
    here : list_of number lists ≡ take (get_or lists at 0) (drop (at + 1) lists)
    unfolding list_of
    here =
        let left : number - k ≡ zero = omega arith in
        passed.onward ∙ rw (left, count_at, drop-drop)

    pub passed-all : (to : ℕ) → to ≡ end_at lists at → at < to → take (to - (at + 1)) (drop (at + 1) lists) ≡ list_of number lists
    passed-all to e below =
        let count : to - (at + 1) ≡ min (get_or lists at 0) (length (drop (at + 1) lists)) = omega (arith, length-drop (at + 1) lists) in
        rw (count, take_min) (sym here)

    pub passed-end : (to : ℕ) → to ≡ end_at lists at → to ≤ at → [] ≡ list_of number lists
    passed-end to e below =
        let short : length lists ≤ at + 1 = omega arith in
        sym (here ∙ rw (drop_of_length-le lists short, take-nil))
