-- The entries passed are doubled.
use Rattle.counting.proofs.Laws.Rows.{DoubledTo}
use Rattle.counting.proofs.rows.double.Given as goal

abbrev pub invariant-loop-total : goal.invariant-loop-total
invariant-loop-total l = DoubledTo l.total-index l.initial.totals l.totals
