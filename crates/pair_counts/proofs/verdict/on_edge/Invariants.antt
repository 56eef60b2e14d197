-- The events so far are counted.
use Rattle.pair_counts.proofs.Laws.Tally.{OnEdgeTo}
use Rattle.pair_counts.proofs.verdict.on_edge.Given as goal

abbrev pub invariant-loop-k : goal.invariant-loop-k
invariant-loop-k l = OnEdgeTo l.sets l.edges l.s l.e l.count l.k
