-- Each front is as long as the list of thresholds.
use mathlib.Core.Path.{sym}
use lib.Seq.{length-take-le}
use Rattle.report.proofs.columns.print_fronts.Goals as goal

pub slice_bounds-print_table-end : goal.slice_bounds-print_table-end
slice_bounds-print_table-end c = sym (length-take-le _ _ (rw c.requires.1.one c.requires.0))

pub slice_bounds-print_table-end-2 : goal.slice_bounds-print_table-end-2
slice_bounds-print_table-end-2 c = sym (length-take-le _ _ (rw c.requires.1.two c.requires.0))

pub slice_bounds-print_table-end-3 : goal.slice_bounds-print_table-end-3
slice_bounds-print_table-end-3 c = sym (length-take-le _ _ (rw c.requires.1.three c.requires.0))
