-- `reached` counts no more entries than it has looked at.
use Prim.Native.Nat.{◌≤◌}
use Rattle.distance.proofs.table.reached.Given as goal

abbrev pub invariant-loop-entry : goal.invariant-loop-entry
invariant-loop-entry l = l.count ≤ l.entry-index
