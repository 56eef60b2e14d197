-- Each way is less the sum.
use native.Mathlib.Omega.{arith}
use Rattle.sweep.specs.Moving.{reach}
use Rattle.sweep.proofs.cursor.reach.Goals as goal

pub returns-then-cursor : goal.returns-then-cursor
unfolding reach
returns-then-cursor c = rw c.if-cursor.true (omega (arith, c.saturating_sub-then-cursor.ensures, c.saturating_sub.ensures))

pub returns : goal.returns
unfolding reach
returns c = rw c.if-cursor.false c.saturating_sub-2.ensures
