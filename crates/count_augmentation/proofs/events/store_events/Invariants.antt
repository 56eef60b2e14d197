-- The events in front of the place reached are stored; each turn stores those of one edge.
use Prim.Native.Nat.{◌-◌}
use lib.ListN.{length}
use Rattle.count_augmentation.proofs.Laws.Edges.{StoredUpTo}
use Rattle.count_augmentation.proofs.events.store_events.Given as goal

abbrev pub invariant-loop-from : goal.invariant-loop-from
invariant-loop-from l =
    StoredUpTo l.edges l.offsets l.initial.near_first l.initial.near_second l.from l.near_first l.near_second

abbrev pub decreases-loop-from : goal.decreases-loop-from
decreases-loop-from l = length l.edges - l.from
