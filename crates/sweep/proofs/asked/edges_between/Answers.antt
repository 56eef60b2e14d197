-- An edge's index is its number less one, and any row fits.
use Rattle.sweep.proofs.Laws.AnsweringEnds.{by-numbers, found-by-numbers}
use borrow.Author.Rules.{rules}
use Rattle.sweep.proofs.asked.edges_between.Goals as goal

pub edges_with-requires : goal.edges_with-requires
edges_with-requires c = by-numbers _ _ _ _ c.requires (search rules)

pub returns : goal.returns
returns c = found-by-numbers _ _ _ _ _ c.edges_with.ensures
