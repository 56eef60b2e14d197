-- The routes that arrive at one end reach what the farther of the two does.
use Prim.Native.Nat.{ℕ, ◌-◌, ◌≤◌}
use native.Mathlib.Omega.{arith}
use Rattle.neighbor_sharing.specs.Joined.{joined_from}
use Rattle.neighbor_sharing.proofs.joining.joined_of.Goals as goal

-- no more are reached than there are
left-few : (n a b : ℕ) → n - a - b ≤ n
left-few n a b = omega arith

pub returns : goal.returns
unfolding joined_from
returns c = (cc, rw c.covered.ensures (left-few _ _ _))
