-- The order on distances, and the laws of least and plus under it.
use mathlib.Core.Logic.{◌⊎◌, inl, inr}
use mathlib.Core.Path.{◌≡◌, refl, ◌∙◌, ap, subst}
use Prim.Native.Nat.{ℕ, ◌≤◌}
use native.Mathlib.Omega.{arith}
use native.Mathlib.Decide.{dec_le}
use Rattle.model.specs.Distance.{Distance, metres, none, least, plus}

-- the order: numbers of metres as they are, none above all
pub data Le : Distance → Distance → Type 0 where
  le-metres : {m n : ℕ} → m ≤ n → Le (metres m) (metres n)
  le-none : {d : Distance} → Le d none

-- numbers in order are distances in order
pub in_order : {m n : ℕ} → m ≤ n → Le (metres m) (metres n)
in_order h = le-metres h

-- a distance is below itself, and below what is above one above it; two that are below each other are equal
pub le_refl : (d : Distance) → Le d d
le_refl (metres m) = in_order (omega arith)
le_refl none = le-none

pub le_trans : {c d e : Distance} → Le c d → Le d e → Le c e
le_trans (le-metres h) (le-metres k) = in_order (omega arith)
le_trans h le-none = le-none

pub le_antisym : {d e : Distance} → Le d e → Le e d → d ≡ e
le_antisym (le-metres h) (le-metres k) = ap metres (omega arith)
le_antisym le-none le-none = refl

-- between numbers of metres the order is that of the numbers, and none is below nothing else
pub metres-le : {m n : ℕ} → Le (metres m) (metres n) → m ≤ n
metres-le (le-metres h) = h

pub none-le : {n : ℕ} → Le none (metres n) → ⊥
none-le h = elim h [ ]

-- 0 metres is below all
pub zero-le : (d : Distance) → Le (metres 0) d
zero-le (metres n) = in_order (omega arith)
zero-le none = le-none

-- equal distances are in order
pub le_of_eq : {d e : Distance} → d ≡ e → Le d e
le_of_eq {d} p = subst (λ (x : Distance). Le d x) p (le_refl d)

-- the lesser of two is below both
pub least-left : (d e : Distance) → Le (least d e) d
unfolding least
least-left (metres m) (metres n) = in_order (omega arith)
least-left (metres m) none = in_order (omega arith)
least-left none e = le-none

pub least-right : (d e : Distance) → Le (least d e) e
unfolding least
least-right (metres m) (metres n) = in_order (omega arith)
least-right (metres m) none = le-none
least-right none e = le_refl e

-- and above whatever is below both
pub least-greatest : {c d e : Distance} → Le c d → Le c e → Le c (least d e)
unfolding least
least-greatest (le-metres h) (le-metres k) = in_order (omega arith)
least-greatest (le-metres h) le-none = le-metres h
least-greatest le-none k = k

pub least-monotone : {c d e f : Distance} → Le c d → Le e f → Le (least c e) (least d f)
least-monotone {c} {d} {e} {f} h k = least-greatest (le_trans (least-left c e) h) (le_trans (least-right c e) k)

pub least-comm : (d e : Distance) → least d e ≡ least e d
least-comm d e =
    le_antisym (least-greatest (least-right d e) (least-left d e)) (least-greatest (least-right e d) (least-left e d))

pub least-assoc : (c d e : Distance) → least (least c d) e ≡ least c (least d e)
least-assoc c d e =
    le_antisym
    (least-greatest
    (le_trans (least-left (least c d) e) (least-left c d))
    (least-monotone (least-right c d) (le_refl e)))
    (least-greatest
    (least-monotone (le_refl c) (least-left d e))
    (le_trans (least-right c (least d e)) (least-right d e)))

pub least-none : (d : Distance) → least d none ≡ d
least-none d = le_antisym (least-left d none) (least-greatest (le_refl d) le-none)

-- a distance that is below another is the lesser of the two
pub least-of-le : {d e : Distance} → Le d e → least d e ≡ d
least-of-le {d} {e} h = le_antisym (least-left d e) (least-greatest (le_refl d) h)

-- of two distances one is below the other
pub le_total : (d e : Distance) → Le d e ⊎ Le e d
le_total d none = inl le-none
le_total none (metres n) = inr le-none
le_total (metres m) (metres n) = by_order (dec_le m n)
  where
    by_order : Dec (m ≤ n) → Le (metres m) (metres n) ⊎ Le (metres n) (metres m)
    by_order (yes h) = inl (in_order h)
    by_order (no h) = inr (in_order (omega arith))

-- plus is a sum with 0 metres for zero
pub plus_comm : (d e : Distance) → plus d e ≡ plus e d
unfolding plus
plus_comm (metres m) (metres n) = ap metres (omega arith)
plus_comm (metres m) none = refl
plus_comm none (metres n) = refl
plus_comm none none = refl

pub plus_assoc : (c d e : Distance) → plus (plus c d) e ≡ plus c (plus d e)
unfolding plus
plus_assoc (metres l) (metres m) (metres n) = ap metres (omega arith)
plus_assoc (metres l) (metres m) none = refl
plus_assoc (metres l) none e = refl
plus_assoc none d e = refl

pub plus-zero : (d : Distance) → plus d (metres 0) ≡ d
unfolding plus
plus-zero (metres m) = ap metres (omega arith)
plus-zero none = refl

pub none-plus : (d : Distance) → plus none d ≡ none
unfolding plus
none-plus d = refl

-- plus keeps the order, and a sum is above its parts
pub plus-monotone : {c d e f : Distance} → Le c d → Le e f → Le (plus c e) (plus d f)
unfolding plus
plus-monotone (le-metres h) (le-metres k) = in_order (omega arith)
plus-monotone (le-metres h) le-none = le-none
plus-monotone le-none k = le-none

pub le-plus-left : (d e : Distance) → Le d (plus d e)
unfolding plus
le-plus-left (metres m) (metres n) = in_order (omega arith)
le-plus-left (metres m) none = le-none
le-plus-left none e = le-none

pub le-plus-right : (d e : Distance) → Le e (plus d e)
le-plus-right d e = le_trans (le-plus-left e d) (le_of_eq (plus_comm e d))

-- plus goes through least
pub plus-least : (c d e : Distance) → plus c (least d e) ≡ least (plus c d) (plus c e)
unfolding plus least
plus-least none d e = refl
plus-least (metres l) none e = refl
plus-least (metres l) (metres m) none = refl
plus-least (metres l) (metres m) (metres n) = ap metres (omega arith)

pub least-plus : (c d e : Distance) → plus (least c d) e ≡ least (plus c e) (plus d e)
least-plus c d e =
    plus_comm (least c d) e ∙ plus-least e c d ∙ ap (λ (x : Distance). least x (plus e d)) (plus_comm e c) ∙ ap (least (plus c e)) (plus_comm e d)
