-- A list of zeros.
use mathlib.Core.List.{List}
use mathlib.Core.Path.{◌≡◌, refl}
use Prim.Native.Nat.{ℕ, zero, suc}
use lib.ListN.{get_or, replicate}

-- a list of n zeros reads 0 everywhere, behind its end too
pub cleared : (n : ℕ) {l : List ℕ} → l ≡ replicate n 0 → (k : ℕ) → get_or l k 0 ≡ 0
cleared n e k = rw e (read n k)
  where
    read : (n k : ℕ) → ◌≡◌ {A = ℕ} (get_or (replicate n 0) k 0) 0
    read zero k = refl
    read (suc n) zero = refl
    read (suc n) (suc k) = read n k
