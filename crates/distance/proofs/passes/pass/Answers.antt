-- `pass`: proofs/Relaxing has what it keeps.
use native.Mathlib.Omega.{arith}
use borrow.Author.Tests.{eqb-true}
use Rattle.distance.proofs.Relaxing.{passing-more, passing-few, passing-all}
use Rattle.distance.proofs.passes.pass.Goals as goal

pub overflow_add-fell : goal.overflow_add-fell
overflow_add-fell c = omega (arith, passing-few c.loop-i.invariant c.loop-i-test.true c.relax-fell.ensures)

pub loop-i-preserved : goal.loop-i-preserved
loop-i-preserved c = passing-more c.loop-i.invariant c.relax-fell.ensures

pub returns : goal.returns
returns c = (c.loop-i.invariant.still, λ e. passing-all c.loop-i.invariant c.loop-i-test.false (eqb-true _ _ e))
