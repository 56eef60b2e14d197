-- `put_rows` puts one row each time.
use Rattle.printing.proofs.Laws.Rows.{PuttingRows}
use Rattle.printing.proofs.table.put_rows.Given as goal

abbrev pub invariant-loop-k : goal.invariant-loop-k
invariant-loop-k l = PuttingRows l.columns.comparisons l.columns.thresholds.now l.columns.observed.now l.columns.lower.now l.columns.upper.now l.initial.out l.start l.out l.at l.k
