-- The runs passed lie apart.
use Rattle.model.specs.Network.{network_of}
use Rattle.counting.specs.Runs.{ApartTo}
use Rattle.counting.proofs.runs.next_near.Given as goal

abbrev pub invariant-loop-b : goal.invariant-loop-b
invariant-loop-b l =
    ApartTo (network_of l.prepared.network) l.prepared.table.now l.prepared.edges.now l.prepared.bounds.now l.rows.edge l.from l.b
