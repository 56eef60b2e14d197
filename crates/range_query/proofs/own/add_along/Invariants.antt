-- The events so far are counted, those at one offset together.
use Rattle.std.proofs.Common.{leb, get_or}
use Rattle.std.specs.Slice.Iter.{chunk_by_rest}
use Rattle.model.specs.Counting.{sum_below, count_if}
use Rattle.model.specs.Limits.{max_thresholds}
use Rattle.edge_pair.specs.Totals.{Added}
use Rattle.range_query.specs.Ladder.{bucket_in}
use Rattle.range_query.specs.Metres.{metres_between}
use Rattle.range_query.proofs.Laws.Parted.{End, behind}
use Rattle.range_query.proofs.own.add_along.Given as goal

abbrev pub invariant-loop-equals : goal.invariant-loop-equals
invariant-loop-equals l =
    End l.xs (chunk_by_rest l.equals-iterator)
    × Added max_thresholds (λ k. sum_below (behind l.xs (chunk_by_rest l.equals-iterator)) (λ j. count_if (λ y. leb (bucket_in l.ladder (metres_between l.edges (get_or l.xs j 0) y)) k) l.ys)) l.initial.totals l.totals
