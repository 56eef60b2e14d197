-- A search from each end of the first edge.
use Rattle.sweep.proofs.Laws.AnsweringEnds.{asked-from, found}
use Rattle.sweep.proofs.asked.edges_with.Goals as goal

pub to_ends-from_first-requires : goal.to_ends-from_first-requires
to_ends-from_first-requires c = rw c.value_at-first.ensures (asked-from _ _ _ _ c.requires).from_first

pub to_ends-from_second-requires : goal.to_ends-from_second-requires
to_ends-from_second-requires c = rw c.value_at-second.ensures ((asked-from _ _ _ _ c.requires).from_second _ c.to_ends-from_first.auto.row)

pub returns : goal.returns
returns c = found c.value_at.ensures c.value_at-2.ensures c.value_at-first.ensures c.value_at-second.ensures c.to_ends-from_first.ensures c.to_ends-from_second.ensures
