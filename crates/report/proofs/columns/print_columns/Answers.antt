-- Each answer of the table says which table is printed.
use Rattle.model.specs.Limits.{max_thresholds}
use Rattle.text.specs.Parallel.{Level}
use Rattle.report.proofs.Laws.Table.{few, refused-never, still-level, zeros, observed-bytes, compared-bytes}
use Rattle.report.proofs.columns.print_columns.Goals.{In_ok-columns, in-Observed, in-Compared}
use Rattle.report.proofs.columns.print_columns.Goals as goal

-- the columns keep their lengths
level : (c : In_ok-columns) → Level max_thresholds c.table.new.observed c.table.new.lower c.table.new.upper
level c = still-level (zeros _) c.table.auto.observed c.table.auto.lower c.table.auto.upper

pub returns-in_err-columns : goal.returns-in_err-columns
returns-in_err-columns c = refused-never c.requires (zeros _) c.table.ensures c.in_err-columns.was

pub print_fronts-requires : goal.print_fronts-requires
print_fronts-requires c = (few c.requires (zeros _), level (goal.at.print_fronts-requires c).In_ok-columns)

pub returns : goal.returns
returns c = let kept = level (goal.at.returns c).In_ok-columns in elim c.match-columns.branch [
  | in-Observed w ↦ observed-bytes c.requires (zeros _) c.table.ensures kept (rw w.in-Observed.is at c.in_ok-columns.was) (rw w.comparisons-is at c.print_fronts.ensures)
  | in-Compared w ↦ compared-bytes c.requires (zeros _) c.table.ensures kept (rw w.in-Compared.is at c.in_ok-columns.was) (rw w.comparisons-is at c.print_fronts.ensures)
]
