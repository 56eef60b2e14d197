-- The events so far are counted with each other.
use Rattle.std.proofs.Common.{◌≡◌}
use Rattle.std.specs.Slice.Iter.{chunk_by_rest}
use Rattle.model.specs.Limits.{max_thresholds}
use Rattle.edge_pair.specs.Totals.{Added}
use Rattle.range_query.proofs.Laws.Own.{square, up_to}
use Rattle.range_query.proofs.Laws.Parted.{End, behind}
use Rattle.range_query.proofs.own.add_own.Given as goal

abbrev pub invariant-loop-equals : goal.invariant-loop-equals
invariant-loop-equals l =
    End l.xs (chunk_by_rest l.equals-iterator)
    × (l.before ≡ behind l.xs (chunk_by_rest l.equals-iterator))
    × Added max_thresholds (λ k. square (up_to l.ladder l.edges k) l.xs (behind l.xs (chunk_by_rest l.equals-iterator))) l.initial.totals l.totals
