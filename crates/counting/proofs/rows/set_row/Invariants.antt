-- After the two turns the totals are of all pairs, from which the row is written.
use Rattle.model.specs.Network.{network_of}
use Rattle.counting.proofs.Laws.Rows.{TurnsTo}
use Rattle.counting.proofs.rows.set_row.Given as goal

abbrev pub invariant-loop-own : goal.invariant-loop-own
invariant-loop-own l =
    TurnsTo (network_of l.prepared.network) l.prepared.edges.now l.prepared.offsets.now l.prepared.bounds.now l.prepared.thresholds.now l.r l.q l.own-index l.totals
