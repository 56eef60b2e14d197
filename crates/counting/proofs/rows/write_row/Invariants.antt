-- The counts passed are written, and the total is that of the entries before.
use Rattle.counting.proofs.Laws.Rows.{RowTo}
use Rattle.counting.proofs.rows.write_row.Given as goal

abbrev pub invariant-loop-k : goal.invariant-loop-k
invariant-loop-k l = RowTo l.totals l.events l.k l.total l.initial.row l.row
