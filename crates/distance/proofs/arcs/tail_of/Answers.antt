-- `tail_of` reads where the definition reads.
use borrow.Author.Tests.{eq-eqb, ne_eqb}
use Rattle.distance.specs.Arcs.{tail}
use Rattle.distance.proofs.arcs.tail_of.Goals as goal

pub returns-then-arc-eq0 : goal.returns-then-arc-eq0
unfolding tail
returns-then-arc-eq0 c = simp (eq-eqb _ _ c.if-arc-eq0.true)

pub returns-else-arc-eq0 : goal.returns-else-arc-eq0
unfolding tail
returns-else-arc-eq0 c = simp (ne_eqb _ _ c.if-arc-eq0.false)
