-- The runs so far are stored; a run that is put back leaves the others as they were.
use Rattle.counting.proofs.Laws.Stored.{StoredTo}
use Rattle.counting.proofs.stored.store_runs.Given as goal

abbrev pub invariant-loop-k : goal.invariant-loop-k
invariant-loop-k l =
    StoredTo l.offsets l.bounds l.initial.near_first l.initial.near_second l.k l.near_first l.near_second
