-- Codes of distances, and distances put together from the ends of an edge.
use mathlib.Core.Path.{◌≡◌, refl, sym, ◌∙◌}
use Prim.Native.Nat.{ℕ, zero, suc, ◌+◌, ◌-◌, ◌≤◌}
use native.Mathlib.Decide.{ℕ_discrete}
use native.Mathlib.Omega.{arith}
use borrow.Author.Tests.{eq-eqb, ne_eqb}
use lib.Dec.{eqb}
use Rattle.model.proofs.Laws.Codes.{least-small}
use Rattle.model.specs.Distance.{metres, plus, exactly, code, decode}
use Rattle.perimeter.specs.Reach.{by_ends_of, left_of}

-- the code of a distance after so many metres
pub after_none : (gap c : ℕ) → c ≡ 0 → 0 ≡ code (plus (metres gap) (decode c))
unfolding decode plus code
after_none gap zero e = refl
after_none gap (suc c) e = absurd (omega arith)

pub after-metres : (gap c : ℕ) → (c ≡ 0 → ⊥) → gap + c ≡ code (plus (metres gap) (decode c))
unfolding decode plus code
after-metres gap zero h = absurd (h refl)
after-metres gap (suc c) h = omega arith

-- no code is more than the metres and the codes that it is made of
pub after_small : (gap c k m : ℕ) → gap ≤ k → c ≤ m → code (plus (metres gap) (decode c)) ≤ k + m
unfolding decode plus code
after_small gap zero k m h l = omega arith
after_small gap (suc c) k m h l = omega arith

pub by-ends-small : (gap1 gap2 end1 end2 k m : ℕ) → gap1 ≤ k → gap2 ≤ k → end1 ≤ m → end2 ≤ m → code (by_ends_of gap1 gap2 (decode end1) (decode end2)) ≤ k + m
unfolding by_ends_of
by-ends-small gap1 gap2 end1 end2 k m g1 g2 e1 e2 =
    least-small _ _ (k + m) (after_small gap1 end1 k m g1 e1) (after_small gap2 end2 k m g2 e2)

-- the test for exactly the radius, on the code
pub at-radius : (c radius : ℕ) → eqb c (radius + 1) ≡ exactly (decode c) radius
unfolding decode exactly
at-radius zero radius = ne_eqb 0 (radius + 1) (λ e. omega arith)
at-radius (suc c) radius = go (ℕ_discrete c radius)
  where
    go : Dec (c ≡ radius) → eqb (suc c) (radius + 1) ≡ eqb c radius
    go (yes e) = eq-eqb (suc c) (radius + 1) (omega arith) ∙ sym (eq-eqb c radius e)
    go (no h) = ne_eqb (suc c) (radius + 1) (λ e. h (omega arith)) ∙ sym (ne_eqb c radius h)

-- what a code leaves of the radius
pub left-none : (radius c : ℕ) → c ≡ 0 → 0 ≡ left_of radius (decode c)
unfolding decode left_of
left-none radius zero e = refl
left-none radius (suc c) e = absurd (omega arith)

pub left-metres : (radius c : ℕ) → (c ≡ 0 → ⊥) → radius - (c - 1) ≡ left_of radius (decode c)
unfolding decode left_of
left-metres radius zero h = absurd (h refl)
left-metres radius (suc c) h = omega arith
