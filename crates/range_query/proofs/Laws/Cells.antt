-- Cells of 2 ^ shift metres, the last one without end.
use mathlib.Core.Path.{◌≡◌, subst}
use Prim.Native.Nat.{ℕ, ◌+◌, ◌*◌, ◌/◌, ◌^◌, ◌≤◌, ◌<◌}
use native.Mathlib.Nat.{div-mul-le_self, lt-div-mul-add, mul-le-mul_right, one-le-pow}
use native.Mathlib.Omega.{arith}
use Rattle.range_query.specs.Ladder.{last_cell, cell_of}

module _ (shift : ℕ) where
  -- no cell is behind the last
  pub cell-to : (d : ℕ) → cell_of shift d ≤ last_cell
  unfolding cell_of
  cell-to d = omega arith

  -- the metres of cell k
  pub in_cell : {k d : ℕ} → cell_of shift d ≡ k → (k * 2 ^ shift ≤ d) × (k < last_cell → d < k * 2 ^ shift + 2 ^ shift)
  unfolding cell_of
  in_cell {k} {d} e =
      (omega (arith, mul-le-mul_right {m = k} {n = d / 2 ^ shift} (2 ^ shift) (omega arith), div-mul-le_self d (2 ^ shift)), λ h. subst (λ c. d < c * 2 ^ shift + 2 ^ shift) (whole h) (lt-div-mul-add {a = d} {b = 2 ^ shift} (one-le-pow shift 2 (omega arith))))
    where
      whole : k < last_cell → d / 2 ^ shift ≡ k
      whole h = omega arith
