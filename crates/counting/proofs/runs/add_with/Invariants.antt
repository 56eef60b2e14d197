-- The pairs with the runs passed have been added.
use Rattle.std.proofs.Common.{◌-◌, ◌≤◌}
use Rattle.model.specs.Network.{network_of}
use Rattle.counting.proofs.Laws.Runs.{WithTo}
use Rattle.counting.proofs.runs.add_with.Given as goal

abbrev pub invariant-loop-b : goal.invariant-loop-b
invariant-loop-b l =
    (l.b ≤ l.to) × WithTo (network_of l.prepared.network) l.prepared.edges.now l.prepared.offsets.now l.prepared.bounds.now l.prepared.thresholds.now l.a l.from l.b l.initial.totals l.totals

abbrev pub decreases-loop-b : goal.decreases-loop-b
decreases-loop-b l = l.to - l.b
