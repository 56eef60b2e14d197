-- Three lists of numbers side by side, as one list of records.
use Rattle.std.specs.Prelude.{List, [], ◌∷◌, ◌≡◌, ℕ, length}

unfoldable pub beside : {A : Type 0} → (ℕ → ℕ → ℕ → A) → List ℕ → List ℕ → List ℕ → List A
beside mk [] ys zs = []
beside mk (x ∷ xs) [] zs = []
beside mk (x ∷ xs) (y ∷ ys) [] = []
beside mk (x ∷ xs) (y ∷ ys) (z ∷ zs) = mk x y z ∷ beside mk xs ys zs

-- three lists of one length
pub record Level (n : ℕ) (xs ys zs : List ℕ) : Type 0 where
  pub one : length xs ≡ n
  pub two : length ys ≡ n
  pub three : length zs ≡ n
