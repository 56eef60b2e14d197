-- The metres of a table entry, and that sums with them do not wrap.
use Rattle.std.proofs.Common.{◌≡◌, ℕ, pred, ◌-◌, ◌<◌, ◌≤◌, arith, eq-eqb, ne_eqb}
use native.Mathlib.Decide.{ℕ_discrete}
use Rattle.edge_pair.specs.Ways.{far, way}

-- what stands for no way is beyond every threshold
pub far-beyond : (t : ℕ) → t < 4294967296 → t < far
far-beyond t h = omega arith

-- no way
pub way-none : (code : ℕ) → code ≡ 0 → way code ≡ far
unfolding way
way-none code e = simp (eq-eqb code 0 e)

-- a way
pub way-some : (code : ℕ) → (code ≡ 0 → ⊥) → way code ≡ code - 1
unfolding way
way-some code n = let e : way code ≡ pred code = simp (ne_eqb code 0 n) in omega arith

-- at most far
pub way-to : (code : ℕ) → code < 4294967296 → way code ≤ far
way-to code h = go (ℕ_discrete code 0)
  where
    go : Dec (code ≡ 0) → way code ≤ far
    go (yes e) = omega (arith, way-none code e)
    go (no n) = omega (arith, way-some code n)
