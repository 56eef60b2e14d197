-- The routes sorted by the end at which they arrive, and the window around an offset: what both methods that count places read.
use mathlib.Core.Bool.{Bool, true, false, not, ◌&&◌, ◌||◌}
use mathlib.Core.List.{List}
use mathlib.Core.Path.{◌≡◌, refl, sym, ◌∙◌}
use Prim.Native.Nat.{ℕ, ◌+◌, ◌-◌, ◌≤◌, ◌<◌, max}
use native.Mathlib.Decide.{dec_le, dec_lt}
use native.Mathlib.Omega.{arith}
use borrow.Author.Tests.{le-leb, lt-leb, lt-ltb, le-ltb}
use lib.Dec.{leb, ltb}
use lib.ListN.{length, get_or}
use Rattle.model.proofs.Laws.Counting.{count-below-cong, count-below-list}
use Rattle.model.specs.Counting.{count_if}
use Rattle.model.specs.Distance.{difference}

-- below the greater of two is below one of them
pub below-max : (k r s : ℕ) → ltb k (max r s) ≡ (ltb k r || ltb k s)
below-max k r s = go (dec_lt k r) (dec_lt k s)
  where
    go : Dec (k < r) → Dec (k < s) → ltb k (max r s) ≡ (ltb k r || ltb k s)
    go (yes h) l = lt-ltb k (max r s) (omega arith) ∙ sym (simp (lt-ltb k r h))
    go (no h) (yes l) = lt-ltb k (max r s) (omega arith) ∙ sym (simp (le-ltb k r (omega arith), lt-ltb k s l))
    go (no h) (no l) = le-ltb k (max r s) (omega arith) ∙ sym (simp (le-ltb k r (omega arith), le-ltb k s (omega arith)))

-- among the last so many places, for the greater of two numbers, is among them for one
pub from-max : (n k r s : ℕ) → leb (n - max r s) k ≡ (leb (n - r) k || leb (n - s) k)
from-max n k r s = go (dec_le (n - r) k) (dec_le (n - s) k)
  where
    go : Dec (n - r ≤ k) → Dec (n - s ≤ k) → leb (n - max r s) k ≡ (leb (n - r) k || leb (n - s) k)
    go (yes h) l = le-leb (n - max r s) k (omega arith) ∙ sym (simp (le-leb (n - r) k h))
    go (no h) (yes l) = le-leb (n - max r s) k (omega arith) ∙ sym (simp (lt-leb (n - r) k (omega arith), le-leb (n - s) k l))
    go (no h) (no l) = lt-leb (n - max r s) k (omega arith) ∙ sym (simp (lt-leb (n - r) k (omega arith), lt-leb (n - s) k (omega arith)))

-- four routes by the end at which they arrive, and by the end from which they leave
pub by-arrival : (a b c d w : Bool) → (((a || c) || (b || d)) || w) ≡ (((a || b) || (c || d)) || w)
by-arrival true b c d w = refl
by-arrival false true true d w = refl
by-arrival false true false d w = refl
by-arrival false false true d w = refl
by-arrival false false false d w = refl

-- the window around x: from a limit on, and below another
pub in_window : (x y t : ℕ) → leb (difference x y) t ≡ (leb (x - t) y && ltb y (x + t + 1))
unfolding difference
in_window x y t = go (dec_le (x - t) y) (dec_lt y (x + t + 1))
  where
    go : Dec (x - t ≤ y) → Dec (y < x + t + 1) → leb ((x - y) + (y - x)) t ≡ (leb (x - t) y && ltb y (x + t + 1))
    go (yes l) (yes m) = simp (le-leb (x - t) y l, lt-ltb y (x + t + 1) m) (le-leb ((x - y) + (y - x)) t (omega arith))
    go (yes l) (no m) = simp (le-leb (x - t) y l, le-ltb y (x + t + 1) (omega arith)) (lt-leb ((x - y) + (y - x)) t (omega arith))
    go (no l) m = simp (lt-leb (x - t) y (omega arith)) (lt-leb ((x - y) + (y - x)) t (omega arith))

-- no place is both from p on and before p
pub no_place : (p k : ℕ) → false ≡ (leb p k && ltb k p)
no_place p k = go (dec_le p k)
  where
    go : Dec (p ≤ k) → false ≡ (leb p k && ltb k p)
    go (yes l) = simp (le-leb p k l, le-ltb k p l)
    go (no l) = simp (lt-leb p k (omega arith))

-- from a number on is not below it
pub not_below : (p k : ℕ) → leb p k ≡ not (ltb k p)
not_below p k = go (dec_le p k)
  where
    go : Dec (p ≤ k) → leb p k ≡ not (ltb k p)
    go (yes l) = simp (le-ltb k p l) (le-leb p k l)
    go (no l) = simp (lt-ltb k p (omega arith)) (lt-leb p k (omega arith))

-- tests that agree at every place of a list count alike
pub count-places : (f g : ℕ → Bool) (xs : List ℕ) → ((k : ℕ) → k < length xs → f (get_or xs k 0) ≡ g (get_or xs k 0)) → count_if f xs ≡ count_if g xs
count-places f g xs h =
    sym (count-below-list 0 f xs) ∙ count-below-cong (length xs) (λ k. f (get_or xs k 0)) (λ k. g (get_or xs k 0)) h ∙ count-below-list 0 g xs
