-- What is added up, and what is left to add by cursors moved on from where they stand, are all.
use Prim.Native.Nat.{◌-◌}
use lib.ListN.{length}
use Rattle.neighbor_sharing.proofs.Laws.Sharing.{Sharing}
use Rattle.neighbor_sharing.proofs.pairs.count_pairs.Given as goal

abbrev pub invariant-loop-i : goal.invariant-loop-i
invariant-loop-i l = Sharing l.threshold l.edges l.xs l.ys l.i l.stands l.total

abbrev pub decreases-loop-i : goal.decreases-loop-i
decreases-loop-i l = length l.xs - l.i
