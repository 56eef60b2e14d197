use borrow.Author.Tests.{eq-eqb, ne_eqb}
use Rattle.model.specs.Checks.{same_length_of}
use Rattle.model.specs.Refusal.{unless}
use Rattle.validate.proofs.number.same_length.Goals as goal

pub returns-then-one-other : goal.returns-then-one-other
unfolding same_length_of unless
returns-then-one-other c = simp (eq-eqb _ _ c.if-one-other.true)

pub returns : goal.returns
unfolding same_length_of unless
returns c = simp (ne_eqb _ _ c.if-one-other.false)
