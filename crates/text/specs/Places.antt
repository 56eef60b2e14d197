-- The index at which a byte, or two bytes one after the other, first occur in a list of bytes; its length where they do not.
use Rattle.std.specs.Prelude.{cond, ◌&&◌, List, [], ◌∷◌, ℕ, suc, eqb}

unfoldable pub first_at : ℕ → List ℕ → ℕ
first_at x [] = 0
first_at x (b ∷ bs) = cond (eqb b x) 0 (suc (first_at x bs))

unfoldable pub pair_at : ℕ → ℕ → List ℕ → ℕ
pair_at x y [] = 0
pair_at x y (b ∷ []) = 1
pair_at x y (b ∷ d ∷ bs) = cond (eqb b x && eqb d y) 0 (suc (pair_at x y (d ∷ bs)))
