-- `put_rows` puts one row each time.
use Rattle.printing.proofs.Laws.Rows.{rows_start, row_room, row_put, rows-put}
use Rattle.printing.proofs.table.put_rows.Goals as goal

pub loop-k-init : goal.loop-k-init
loop-k-init c = rows_start _ _ _ _ _ c.requires

pub put_row-at-requires : goal.put_row-at-requires
put_row-at-requires c = rw (c.value_at.ensures, c.extremes_at-extremes.ensures) (row_room _ _ _ _ _ c.loop-k.invariant c.loop-k-test.true)

pub loop-k-preserved : goal.loop-k-preserved
loop-k-preserved c = row_put _ _ _ _ _ c.loop-k.invariant c.loop-k-test.true (rw (c.value_at.ensures, c.extremes_at-extremes.ensures) at c.put_row-at.ensures)

pub returns : goal.returns
returns c = rows-put _ _ _ _ _ c.loop-k.invariant c.loop-k-test.false
