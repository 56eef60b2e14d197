-- The pairs of the events so far are counted, those at one offset together.
use Rattle.std.specs.Slice.Iter.{chunk_by_rest}
use Rattle.range_query.proofs.Laws.Parted.{End, behind}
use Rattle.range_query.proofs.Laws.Within.{PairsCounted}
use Rattle.range_query.proofs.within.count_within.Given as goal

abbrev pub invariant-loop-equals : goal.invariant-loop-equals
invariant-loop-equals l =
    End l.xs (chunk_by_rest l.equals-iterator) × PairsCounted l.threshold l.edges l.xs l.ys l.total (behind l.xs (chunk_by_rest l.equals-iterator))
