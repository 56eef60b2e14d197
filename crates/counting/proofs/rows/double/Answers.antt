-- The entries passed are doubled.
use Rattle.std.proofs.Common.{refl, arith}
use Rattle.counting.proofs.Laws.Rows.{one-doubled, all-doubled}
use Rattle.counting.proofs.rows.double.Goals as goal

pub loop-total-preserved : goal.loop-total-preserved
loop-total-preserved c = one-doubled _ c.loop-total.invariant (omega arith) refl

pub returns : goal.returns
returns c = all-doubled c.loop-total.invariant (omega arith)
