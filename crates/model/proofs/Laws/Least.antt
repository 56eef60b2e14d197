-- The least of many distances, and distances that are the least length over some kind of walk.
use mathlib.Core.Bool.{true, false}
use mathlib.Core.List.{List, [], ◌∷◌, Memᴰ}
use mathlib.Core.Path.{◌≡◌, refl, sym, ap, subst}
use Prim.Native.Nat.{ℕ, zero, suc, ◌+◌, ◌≤◌, ◌<◌, min}
use native.Mathlib.Omega.{arith}
use native.Mathlib.Decide.{dec_le, ℕ_discrete}
use borrow.Author.Tests.{leb-true, eq-eqb, eqb-true}
use Rattle.model.specs.Distance.{Distance, metres, none, least, plus, least_of, least_below, within, exactly, bounded}
use Rattle.model.specs.Walk.{IsLeast, attained, no_walk}
use Rattle.model.proofs.Laws.Distance.{Le, le-none, in_order, le_trans, le_antisym, metres-le, none-le, le_of_eq, least-left, least-right, least-greatest}
use Rattle.model.proofs.Laws.Within.{within-le, le-within, beyond-le, bounded-cases}

-- the least of f 0, .., f (n - 1) is below each of them
pub below_each : (n : ℕ) (f : ℕ → Distance) (i : ℕ) → i < n → Le (least_below n f) (f i)
unfolding least_below
below_each zero f i h = absurd (omega arith)
below_each (suc n) f i h = at_last (below_each n f i) (ℕ_discrete i n)
  where
    at_last : (i < n → Le (least_below n f) (f i)) → Dec (i ≡ n) → Le (least (least_below n f) (f n)) (f i)
    at_last before (yes e) = le_trans (least-right (least_below n f) (f n)) (le_of_eq (ap f (sym e)))
    at_last before (no ne) = le_trans (least-left (least_below n f) (f n)) (before (omega arith))

-- and above whatever is below each of them
pub above-all-below : (n : ℕ) (f : ℕ → Distance) {c : Distance} → ((i : ℕ) → i < n → Le c (f i)) → Le c (least_below n f)
unfolding least_below
above-all-below zero f h = le-none
above-all-below (suc n) f h =
    least-greatest (above-all-below n f (λ i k. h i (omega arith))) (h n (omega arith))

pub above-all-members : (ds : List Distance) {c : Distance} → ((d : Distance) → Memᴰ d ds → Le c d) → Le c (least_of ds)
unfolding least_of
above-all-members [] h = le-none
above-all-members (d ∷ ds) h =
    least-greatest (h d (Memᴰ.head refl)) (above-all-members ds (λ e m. h e (Memᴰ.tail m)))

-- there is a walk as long as the distance says, if it is a number of metres
abbrev pub Reached : (ℕ → Type 0) → Distance → Type 0
Reached Walks (metres m) = Walks m
Reached Walks none = Unit

-- a property of two numbers is one of the lesser
min-either : (P : ℕ → Type 0) (m n : ℕ) → P m → P n → P (min m n)
min-either P m n p q = by_order (dec_le m n)
  where
    by_order : Dec (m ≤ n) → P (min m n)
    by_order (yes h) = subst P (omega arith) p
    by_order (no h) = subst P (omega arith) q

pub reached-least : (Walks : ℕ → Type 0) (d e : Distance) → Reached Walks d → Reached Walks e → Reached Walks (least d e)
unfolding least
reached-least Walks (metres m) (metres n) p q = min-either Walks m n p q
reached-least Walks (metres m) none p q = p
reached-least Walks none e p q = q

pub reached-plus : (Here There Both : ℕ → Type 0) → ((m n : ℕ) → Here m → There n → Both (m + n)) → (d e : Distance) → Reached Here d → Reached There e → Reached Both (plus d e)
unfolding plus
reached-plus Here There Both join (metres m) (metres n) p q = join m n p q
reached-plus Here There Both join (metres m) none p q = tt
reached-plus Here There Both join none e p q = tt

pub reached-below : (Walks : ℕ → Type 0) (n : ℕ) (f : ℕ → Distance) → ((i : ℕ) → i < n → Reached Walks (f i)) → Reached Walks (least_below n f)
unfolding least_below
reached-below Walks zero f h = tt
reached-below Walks (suc n) f h =
    reached-least Walks (least_below n f) (f n) (reached-below Walks n f (λ i k. h i (omega arith))) (h n (omega arith))

pub reached-member : (Walks : ℕ → Type 0) (ds : List Distance) → ((d : Distance) → Memᴰ d ds → Reached Walks d) → Reached Walks (least_of ds)
unfolding least_of
reached-member Walks [] h = tt
reached-member Walks (d ∷ ds) h =
    reached-least Walks d (least_of ds) (h d (Memᴰ.head refl)) (reached-member Walks ds (λ e m. h e (Memᴰ.tail m)))

-- a distance that a walk reaches and that is below every walk is the least length
pub is-least : (Walks : ℕ → Type 0) (d : Distance) → Reached Walks d → ((n : ℕ) → Walks n → Le d (metres n)) → IsLeast Walks d
is-least Walks (metres m) p h = attained p (λ n w. metres-le (h n w))
is-least Walks none p h = no_walk (λ n w. none-le (h n w))

-- and the other way round
pub least-reached : {Walks : ℕ → Type 0} {d : Distance} → IsLeast Walks d → Reached Walks d
least-reached (attained p h) = p
least-reached (no_walk h) = tt

pub least-below : {Walks : ℕ → Type 0} {d : Distance} → IsLeast Walks d → (n : ℕ) → Walks n → Le d (metres n)
least-below (attained p h) n w = in_order (h n w)
least-below (no_walk h) n w = absurd (h n w)

-- the least length is below every distance that a walk reaches
pub least-le : {Walks : ℕ → Type 0} {d : Distance} → IsLeast Walks d → (e : Distance) → Reached Walks e → Le d e
least-le l (metres n) w = least-below l n w
least-le l none w = le-none

-- there is one least length
pub least-unique : {Walks : ℕ → Type 0} {d e : Distance} → IsLeast Walks d → IsLeast Walks e → d ≡ e
least-unique {d = d} {e = e} l k = le_antisym (least-le l e (least-reached k)) (least-le k d (least-reached l))

-- walks that turn into one another have the same least length
pub least-map : {Walks Others : ℕ → Type 0} {d : Distance} → ((n : ℕ) → Walks n → Others n) → ((n : ℕ) → Others n → Walks n) → IsLeast Walks d → IsLeast Others d
least-map to from (attained {m = m} p h) = attained (to m p) (λ n w. h n (from n w))
least-map to from (no_walk h) = no_walk (λ n w. h n (from n w))

-- a least length is within a threshold if a walk that long or shorter exists
pub within-walk : {Walks : ℕ → Type 0} {d : Distance} → IsLeast Walks d → (t : ℕ) → within d t ≡ true → (n : ℕ) × Walks n × (n ≤ t)
unfolding within
within-walk (attained {m = m} p h) t q = (m, p, leb-true m t q)
within-walk (no_walk h) t q = let z : ◌≡◌ {A = ℕ} 0 1 = cc in absurd (omega arith)

pub walk-within : {Walks : ℕ → Type 0} {d : Distance} → IsLeast Walks d → (n t : ℕ) → Walks n → n ≤ t → within d t ≡ true
walk-within l n t w h = le-within (le_trans (least-below l n w) (in_order h))

-- and if it is not, every walk is longer
pub beyond-walk : {Walks : ℕ → Type 0} {d : Distance} → IsLeast Walks d → (n t : ℕ) → Walks n → within d t ≡ false → t < n
beyond-walk {d = d} l n t w p = metres-le (le_trans (beyond-le d t p) (least-below l n w))

-- a least length is exactly t metres if a walk of t metres exists and none is shorter
pub exactly-walk : {Walks : ℕ → Type 0} {d : Distance} → IsLeast Walks d → (t : ℕ) → exactly d t ≡ true → Walks t
unfolding exactly
exactly-walk {Walks} (attained {m = m} p h) t q = subst Walks (eqb-true m t q) p
exactly-walk (no_walk h) t q = let z : ◌≡◌ {A = ℕ} 0 1 = cc in absurd (omega arith)

pub walk-exactly : {Walks : ℕ → Type 0} {d : Distance} → IsLeast Walks d → (t : ℕ) → Walks t → ((n : ℕ) → Walks n → t ≤ n) → exactly d t ≡ true
unfolding exactly
walk-exactly (attained {m = m} p h) t w k = eq-eqb m t (omega (arith, h t w, k m p))
walk-exactly (no_walk h) t w k = absurd (h t w)

-- up to a bound it is the least length over the walks no longer than the bound
pub least-bounded : {Walks : ℕ → Type 0} {d : Distance} → IsLeast Walks d → (t : ℕ) → IsLeast (λ n. Walks n × (n ≤ t)) (bounded t d)
least-bounded {Walks} {d} l t = bounded-cases (IsLeast (λ n. Walks n × (n ≤ t))) t d (inner l) (λ p. no_walk (λ n w. omega (arith, beyond-walk l n t w.0 p, w.1)))
  where
    inner : {e : Distance} → IsLeast Walks e → within e t ≡ true → IsLeast (λ n. Walks n × (n ≤ t)) e
    inner (attained p h) q = attained (p, metres-le (within-le _ t q)) (λ n w. h n w.0)
    inner (no_walk h) q = no_walk (λ n w. h n w.0)
