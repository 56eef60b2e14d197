-- The entries of the second edge's ends in the row that the search has filled.
use mathlib.Core.Path.{◌∙◌}
use Rattle.sweep.proofs.Laws.AnsweringEnds.{first-node, second-node, row-code}
use Rattle.sweep.proofs.asked.to_ends.Goals as goal

pub returns : goal.returns
returns c = record {
  first_is = (rw c.value_at.ensures at c.code_of-first.ensures) ∙ row-code c.requires c.distances_from.ensures (first-node c.requires);
  second_is = (rw c.value_at-2.ensures at c.code_of-second.ensures) ∙ row-code c.requires c.distances_from.ensures (second-node c.requires);
}
