use Prim.Native.Nat.{◌-◌}
use lib.ListN.{length}
use Rattle.network_reader.proofs.NetworkRows.{LinesSoFar}
use Rattle.network_reader.proofs.network.take_text.Given as goal

abbrev pub invariant-loop-at : goal.invariant-loop-at
invariant-loop-at l = LinesSoFar l.text l.seen l.firsts l.seconds l.lengths l.at l.place

abbrev pub decreases-loop-at : goal.decreases-loop-at
decreases-loop-at l = length l.text - l.at
