-- `first_at`: each byte that was passed is another one.
use Rattle.text.proofs.Laws.Places.{pass-one, place_here, place_end, first-here, first-later, first-end}
use Rattle.text.proofs.search.first_at.Goals as goal

pub returns-then-byte-x : goal.returns-then-byte-x
returns-then-byte-x c = place_here _ _ c.loop-i.invariant (first-here _ _ _ c.loop-i-test.true c.if-byte-x.true)

pub loop-i-preserved : goal.loop-i-preserved
loop-i-preserved c = pass-one _ _ c.loop-i.invariant c.loop-i-test.true (first-later _ _ _ c.loop-i-test.true c.if-byte-x.false)

pub returns : goal.returns
returns c = place_end _ _ c.loop-i.invariant (first-end _ _ _ c.loop-i-test.false)
