-- The line of the refused text, or what is printed over the reports that were read.
use mathlib.Core.Path.{sym}
use lib.Seq.{length-take-le}
use Rattle.report.proofs.Laws.Table.{zeros}
use Rattle.report.proofs.Laws.Texts.{within, reports-line, rows_few, reports-pass, thresholds-next}
use Rattle.report.proofs.reports.print_over_network.Goals as goal

pub slice_bounds-sets-end : goal.slice_bounds-sets-end
slice_bounds-sets-end c = within (rows_few c.read_events.ensures c.requires (zeros _) c.in-Ok.is) c.read_events.auto.sets

pub slice_bounds-print_over_reports-end : goal.slice_bounds-print_over_reports-end
slice_bounds-print_over_reports-end c = sym (length-take-le _ _ (within (rows_few c.read_events.ensures c.requires (zeros _) c.in-Ok.is) c.read_events.auto.sets))

pub slice_bounds-edges-end : goal.slice_bounds-edges-end
slice_bounds-edges-end c = within (rows_few c.read_events.ensures c.requires (zeros _) c.in-Ok.is) c.read_events.auto.edges

pub slice_bounds-print_over_reports-end-in-Ok : goal.slice_bounds-print_over_reports-end-in-Ok
slice_bounds-print_over_reports-end-in-Ok c = sym (length-take-le _ _ (within (rows_few c.read_events.ensures c.requires (zeros _) c.in-Ok.is) c.read_events.auto.edges))

pub slice_bounds-offsets-end : goal.slice_bounds-offsets-end
slice_bounds-offsets-end c = within (rows_few c.read_events.ensures c.requires (zeros _) c.in-Ok.is) c.read_events.auto.offsets

pub slice_bounds-print_over_reports-end-in-Ok-2 : goal.slice_bounds-print_over_reports-end-in-Ok-2
slice_bounds-print_over_reports-end-in-Ok-2 c = sym (length-take-le _ _ (within (rows_few c.read_events.ensures c.requires (zeros _) c.in-Ok.is) c.read_events.auto.offsets))

pub print_over_reports-requires : goal.print_over_reports-requires
print_over_reports-requires c = reports-pass c.read_events.ensures c.requires (zeros _) c.in-Ok.is

pub returns-in-Err : goal.returns-in-Err
returns-in-Err c = reports-line c.read_events.ensures c.requires (zeros _) _ c.in-Err.is c.print_refused.ensures

pub returns-in-Ok : goal.returns-in-Ok
returns-in-Ok c = thresholds-next c.read_events.ensures c.requires (zeros _) c.in-Ok.is _ c.print_over_reports.ensures
