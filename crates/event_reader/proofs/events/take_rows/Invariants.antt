use Prim.Native.Nat.{◌-◌}
use lib.ListN.{length}
use Rattle.event_reader.proofs.EventRows.{RowsSoFar}
use Rattle.event_reader.proofs.events.take_rows.Given as goal

abbrev pub invariant-loop-at : goal.invariant-loop-at
invariant-loop-at l = RowsSoFar l.lengths l.text l.sets l.edges l.offsets l.at l.count

abbrev pub decreases-loop-at : goal.decreases-loop-at
decreases-loop-at l = length l.text - l.at
