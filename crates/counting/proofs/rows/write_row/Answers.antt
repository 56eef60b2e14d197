-- The counts passed are written, and the total is that of the entries before.
use Rattle.std.proofs.Common.{refl, arith}
use Rattle.counting.proofs.Laws.Rows.{row-begins, row_more, row_done}
use Rattle.counting.proofs.rows.write_row.Goals as goal

pub loop-k-init : goal.loop-k-init
loop-k-init c = row-begins _ _ _

pub loop-k-preserved : goal.loop-k-preserved
loop-k-preserved c = row_more _ _ c.loop-k.invariant (omega arith) refl (omega arith) c.others.ensures

pub returns : goal.returns
returns c = row_done c.loop-k.invariant (omega arith)
