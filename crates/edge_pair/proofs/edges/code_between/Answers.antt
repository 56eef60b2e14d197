-- By both flags.
use Rattle.edge_pair.specs.Edges.{code_between_of, side_of}
use Rattle.edge_pair.proofs.edges.code_between.Goals as goal

pub returns-then-first2 : goal.returns-then-first2
unfolding code_between_of side_of
returns-then-first2 c = simp (c.if-first1.true, c.if-first2.true)

pub returns-then-first1 : goal.returns-then-first1
unfolding code_between_of side_of
returns-then-first1 c = simp (c.if-first1.true, c.if-first2.false)

pub returns-then-first2-2 : goal.returns-then-first2-2
unfolding code_between_of side_of
returns-then-first2-2 c = simp (c.if-first1.false, c.if-first2-2.true)

pub returns : goal.returns
unfolding code_between_of side_of
returns c = simp (c.if-first1.false, c.if-first2-2.false)
