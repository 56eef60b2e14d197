-- The tests of a distance against a threshold, and the distance up to a bound.
use mathlib.Core.Bool.{Bool, true, false, cond, ◌||◌, or-false}
use mathlib.Core.Logic.{◌⊎◌, inl, inr}
use mathlib.Core.Path.{◌≡◌, refl, sym, ◌∙◌, ap}
use Prim.Native.Nat.{ℕ, suc, ◌≤◌, min}
use native.Mathlib.Omega.{arith}
use native.Mathlib.Decide.{dec_le}
use lib.Dec.{leb, eqb}
use borrow.Author.Tests.{le-leb, lt-leb, leb-true, leb-false, ne_eqb}
use Rattle.model.specs.Distance.{Distance, metres, none, least, plus, within, exactly, bounded}
use Rattle.model.proofs.Laws.Distance.{Le, le-metres, le-none, in_order, le_refl, le_trans, le_total, least-comm, least-of-le, plus_comm, none-plus, le-plus-left}

-- within t means below t metres
pub within-le : (d : Distance) (t : ℕ) → within d t ≡ true → Le d (metres t)
unfolding within
within-le (metres n) t p = in_order (leb-true n t p)
within-le none t p = let z : ◌≡◌ {A = ℕ} 0 1 = cc in absurd (omega arith)

pub le-within : {d : Distance} {t : ℕ} → Le d (metres t) → within d t ≡ true
unfolding within
le-within (le-metres {m = n} {n = t} h) = le-leb n t h

-- not within t means above t metres
pub beyond-le : (d : Distance) (t : ℕ) → within d t ≡ false → Le (metres (suc t)) d
unfolding within
beyond-le (metres n) t p = in_order (leb-false n t p)
beyond-le none t p = le-none

pub le-beyond : (d : Distance) (t : ℕ) → Le (metres (suc t)) d → within d t ≡ false
unfolding within
le-beyond (metres n) t (le-metres h) = lt-leb n t h
le-beyond none t h = refl

-- a lesser distance is within a greater threshold
pub within-monotone : {d e : Distance} {s t : ℕ} → Le d e → s ≤ t → within e s ≡ true → within d t ≡ true
within-monotone {e = e} {s = s} h k p = le-within (le_trans h (le_trans (within-le e s p) (in_order k)))

pub beyond-monotone : {d e : Distance} {s t : ℕ} → Le d e → s ≤ t → within d t ≡ false → within e s ≡ false
beyond-monotone {d} {e} {s} {t} h k p = le-beyond e s (le_trans (in_order (omega arith)) (le_trans (beyond-le d t p) h))

-- the lesser of two is within t if one of them is
pub within-least : (d e : Distance) (t : ℕ) → within (least d e) t ≡ within d t || within e t
unfolding within least
within-least (metres m) none t = sym (or-false (leb m t))
within-least none e t = refl
within-least (metres m) (metres n) t = by_tests (dec_le m t) (dec_le n t)
  where
    by_tests : Dec (m ≤ t) → Dec (n ≤ t) → leb (min m n) t ≡ leb m t || leb n t
    by_tests (yes h) k = simp (le-leb m t h, le-leb (min m n) t (omega arith))
    by_tests (no h) (yes k) = simp (lt-leb m t (omega arith), le-leb n t k, le-leb (min m n) t (omega arith))
    by_tests (no h) (no k) = simp (lt-leb m t (omega arith), lt-leb n t (omega arith), lt-leb (min m n) t (omega arith))

-- up to a bound a distance is itself if it is within the bound, else none
pub bounded-within : (t : ℕ) (d : Distance) → within d t ≡ true → bounded t d ≡ d
unfolding bounded
bounded-within t d p = simp p

pub bounded-beyond : (t : ℕ) (d : Distance) → within d t ≡ false → bounded t d ≡ none
unfolding bounded
bounded-beyond t d p = simp p

pub bounded-none : (t : ℕ) → bounded t none ≡ none
unfolding bounded within
bounded-none t = refl

-- one of the two holds
pub bounded-cases : (P : Distance → Type 0) (t : ℕ) (d : Distance) → (within d t ≡ true → P d) → (within d t ≡ false → P none) → P (bounded t d)
unfolding bounded
bounded-cases P t d inner outer = by-test (within d t) inner outer refl
  where
    by-test : (b : Bool) → (within d t ≡ true → P d) → (within d t ≡ false → P none) → within d t ≡ b → P (cond b d none)
    by-test true f g p = f p
    by-test false f g p = g p

-- a bound does not change a test against what is within it
pub within-bounded : {s t : ℕ} (d : Distance) → s ≤ t → within (bounded t d) s ≡ within d s
unfolding within
within-bounded {s} {t} d h =
    bounded-cases (λ x. within x s ≡ within d s) t d (λ p. refl) (λ p. sym (beyond-monotone (le_refl d) h p))

pub exactly-bounded : {s t : ℕ} (d : Distance) → s ≤ t → exactly (bounded t d) s ≡ exactly d s
unfolding exactly within
exactly-bounded {s} {t} none h = bounded-cases (λ x. exactly x s ≡ false) t none (λ p. refl) (λ p. refl)
exactly-bounded {s} {t} (metres n) h =
    bounded-cases
    (λ x. exactly x s ≡ eqb n s)
    t
    (metres n)
    (λ p. refl)
    (λ p. sym (ne_eqb n s (λ e. omega (arith, leb-false n t p))))

-- the lesser bound counts
pub bounded-twice : {s t : ℕ} (d : Distance) → s ≤ t → bounded s (bounded t d) ≡ bounded s d
bounded-twice {s} {t} d h = by-test (within d s) refl
  where
    by-test : (b : Bool) → within d s ≡ b → bounded s (bounded t d) ≡ bounded s d
    by-test true p = ap (bounded s) (bounded-within t d (within-monotone (le_refl d) h p))
    by-test false p = bounded-beyond s (bounded t d) (within-bounded d h ∙ p) ∙ sym (bounded-beyond s d p)

-- a bound keeps the order, and goes through least
pub bounded-monotone : {d e : Distance} (t : ℕ) → Le d e → Le (bounded t d) (bounded t e)
bounded-monotone {d} {e} t h =
    bounded-cases
    (Le (bounded t d))
    t
    e
    (λ p. rw (bounded-within t d (le-within (le_trans h (within-le e t p)))) h)
    (λ p. le-none)

pub bounded-least : (t : ℕ) (d e : Distance) → bounded t (least d e) ≡ least (bounded t d) (bounded t e)
bounded-least t d e = by_order (le_total d e)
  where
    by_order : Le d e ⊎ Le e d → bounded t (least d e) ≡ least (bounded t d) (bounded t e)
    by_order (inl h) = ap (bounded t) (least-of-le h) ∙ sym (least-of-le (bounded-monotone t h))
    by_order (inr h) =
        ap (bounded t) (least-comm d e ∙ least-of-le h) ∙ sym (least-comm (bounded t d) (bounded t e) ∙ least-of-le (bounded-monotone t h))

-- of a sum up to a bound the parts count up to it
pub bounded-plus-left : (t : ℕ) (d e : Distance) → bounded t (plus (bounded t d) e) ≡ bounded t (plus d e)
bounded-plus-left t d e =
    bounded-cases
    (λ x. bounded t (plus x e) ≡ bounded t (plus d e))
    t
    d
    (λ p. refl)
    (λ p. ap (bounded t) (none-plus e) ∙ bounded-none t ∙ sym (bounded-beyond t (plus d e) (beyond-monotone (le-plus-left d e) (omega arith) p)))

pub bounded-plus-right : (t : ℕ) (d e : Distance) → bounded t (plus d (bounded t e)) ≡ bounded t (plus d e)
bounded-plus-right t d e =
    ap (bounded t) (plus_comm d (bounded t e)) ∙ bounded-plus-left t e d ∙ ap (bounded t) (plus_comm e d)
