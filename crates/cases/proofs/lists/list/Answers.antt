-- One more list is passed; the list stands behind its length, or is cut short.
use Rattle.std.proofs.Common.{arith}
use Rattle.cases.proofs.Laws.{pass-one, passed-all, passed-end}
use Rattle.cases.proofs.lists.list.Goals as goal

pub loop-preserved : goal.loop-preserved
loop-preserved c = pass-one c.loop.invariant _ c.end-at.ensures (omega arith)

pub returns-then-to-at : goal.returns-then-to-at
returns-then-to-at c = passed-end c.loop.invariant (omega arith) _ c.end-to.ensures (omega arith)

pub returns : goal.returns
returns c = passed-all c.loop.invariant (omega arith) _ c.end-to.ensures (omega arith)
