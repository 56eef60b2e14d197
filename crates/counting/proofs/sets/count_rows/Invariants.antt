-- The rows of the sets so far are written, and what stands behind them is as it was.
use Rattle.model.specs.Network.{network_of}
use Rattle.counting.proofs.Laws.AllSets.{SetsWritten}
use Rattle.counting.proofs.sets.count_rows.Given as goal

abbrev pub invariant-loop-s : goal.invariant-loop-s
invariant-loop-s l =
    SetsWritten (network_of l.prepared.network) l.prepared.edges.now l.prepared.offsets.now l.prepared.bounds.now l.set_runs l.prepared.thresholds.now l.initial.answers l.s l.start l.answers
