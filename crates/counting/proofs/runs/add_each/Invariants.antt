-- The runs passed have been taken, each with its partners.
use Rattle.model.specs.Network.{network_of}
use Rattle.counting.proofs.Laws.Each.{EachTo}
use Rattle.counting.proofs.runs.add_each.Given as goal

abbrev pub invariant-loop-a : goal.invariant-loop-a
invariant-loop-a l =
    EachTo (network_of l.prepared.network) l.prepared.edges.now l.prepared.offsets.now l.prepared.bounds.now l.prepared.thresholds.now l.own l.r l.a l.initial.totals l.totals
