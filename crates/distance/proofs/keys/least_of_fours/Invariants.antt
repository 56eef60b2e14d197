-- `least_of_fours`: see proofs/Least.
use Prim.Native.Nat.{◌*◌, ◌≤◌}
use Rattle.distance.specs.Keys.{Least}
use Rattle.distance.proofs.keys.least_of_fours.Given as goal

abbrev pub invariant-loop-k : goal.invariant-loop-k
invariant-loop-k l = 1 ≤ l.len → Least l.keys l.len 0 (l.k * 4) l.least
