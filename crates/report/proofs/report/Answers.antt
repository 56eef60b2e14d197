-- The line of the refused text, or what is printed over the network that was read. It never takes more than is said.
use mathlib.Core.Path.{sym}
use lib.Seq.{length-take-le}
use Rattle.report.proofs.Laws.Room.{report-printed}
use Rattle.report.proofs.Laws.Table.{zeros}
use Rattle.report.proofs.Laws.Texts.{within, network-line, edges_few, edges-pass, reports-next}
use Rattle.report.proofs.report.Goals as goal

pub slice_bounds-firsts-end : goal.slice_bounds-firsts-end
slice_bounds-firsts-end c = within (edges_few c.read_network.ensures (zeros _) c.in-Ok.is) c.read_network.auto.firsts

pub slice_bounds-read-end : goal.slice_bounds-read-end
slice_bounds-read-end c = sym (length-take-le _ _ (within (edges_few c.read_network.ensures (zeros _) c.in-Ok.is) c.read_network.auto.firsts))

pub slice_bounds-seconds-end : goal.slice_bounds-seconds-end
slice_bounds-seconds-end c = within (edges_few c.read_network.ensures (zeros _) c.in-Ok.is) c.read_network.auto.seconds

pub slice_bounds-read-end-in-Ok : goal.slice_bounds-read-end-in-Ok
slice_bounds-read-end-in-Ok c = sym (length-take-le _ _ (within (edges_few c.read_network.ensures (zeros _) c.in-Ok.is) c.read_network.auto.seconds))

pub slice_bounds-lengths-end : goal.slice_bounds-lengths-end
slice_bounds-lengths-end c = within (edges_few c.read_network.ensures (zeros _) c.in-Ok.is) c.read_network.auto.lengths

pub slice_bounds-read-end-in-Ok-2 : goal.slice_bounds-read-end-in-Ok-2
slice_bounds-read-end-in-Ok-2 c = sym (length-take-le _ _ (within (edges_few c.read_network.ensures (zeros _) c.in-Ok.is) c.read_network.auto.lengths))

pub print_over_network-requires : goal.print_over_network-requires
print_over_network-requires c = edges-pass c.read_network.ensures (zeros _) c.in-Ok.is

pub returns-in-Err : goal.returns-in-Err
returns-in-Err c = report-printed _ _ _ (network-line c.read_network.ensures (zeros _) _ _ c.in-Err.is c.print_refused.ensures)

pub returns-in-Ok : goal.returns-in-Ok
returns-in-Ok c = report-printed _ _ _ (reports-next c.read_network.ensures (zeros _) c.in-Ok.is _ _ c.print_over_network.ensures)
