-- The list of wanted nodes before any is marked.
use mathlib.Core.Path.{◌≡◌, ◌∙◌}
use Prim.Native.Nat.{ℕ, ◌≤◌}
use native.Mathlib.Omega.{arith}
use lib.ListN.{length, take, replicate, length-replicate, get_or-replicate}
use lib.Seq.{length-take-le, get_or-take}
use Rattle.prepare.specs.Marking.{Unmarked}

-- so many of a list of zeros
pub unmarked : (n m : ℕ) → n ≤ m → Unmarked (take n (replicate {A = ℕ} m 0))
unmarked n m h =
    let long : length (take n (replicate {A = ℕ} m 0)) ≡ n = length-take-le n (replicate m 0) (rw (length-replicate {A = ℕ} m 0) h) in
    record { none = λ i l. get_or-take n (replicate m 0) i 0 (omega arith) ∙ get_or-replicate {A = ℕ} m i 0 0 (omega arith) }
