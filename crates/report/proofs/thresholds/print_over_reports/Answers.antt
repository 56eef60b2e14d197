-- The line of the refused text, or the table over the thresholds that were read.
use mathlib.Core.Path.{refl, sym}
use lib.Seq.{length-take-le}
use Rattle.report.proofs.Laws.Texts.{thresholds-line, thresholds-few, with-reports, table-next}
use Rattle.report.proofs.thresholds.print_over_reports.Goals as goal

pub slice_bounds-list-end : goal.slice_bounds-list-end
slice_bounds-list-end c = thresholds-few c.read_thresholds.ensures refl c.in-Ok.is c.read_thresholds.auto.thresholds

pub slice_bounds-print_columns-end : goal.slice_bounds-print_columns-end
slice_bounds-print_columns-end c = sym (length-take-le _ _ (thresholds-few c.read_thresholds.ensures refl c.in-Ok.is c.read_thresholds.auto.thresholds))

pub print_columns-requires : goal.print_columns-requires
print_columns-requires c = with-reports c.read_thresholds.ensures refl c.in-Ok.is c.requires

pub returns-in-Err : goal.returns-in-Err
returns-in-Err c = thresholds-line c.read_thresholds.ensures refl _ c.in-Err.is c.print_refused.ensures

pub returns-in-Ok : goal.returns-in-Ok
returns-in-Ok c = table-next c.read_thresholds.ensures refl c.in-Ok.is _ _ _ c.print_columns.ensures
