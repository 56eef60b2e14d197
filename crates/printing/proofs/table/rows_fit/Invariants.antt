-- `rows_fit` takes each row's size off the room that is left.
use Rattle.printing.proofs.Laws.Rows.{Fitting}
use Rattle.printing.proofs.table.rows_fit.Given as goal

abbrev pub invariant-loop-k : goal.invariant-loop-k
invariant-loop-k l = Fitting l.columns.comparisons l.columns.thresholds.now l.columns.observed.now l.columns.lower.now l.columns.upper.now l.room l.left l.k
