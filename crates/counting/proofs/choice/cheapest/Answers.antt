-- No kernel only where the first threshold that admits anything admits all, or the next one does, or where there is none.
use Rattle.counting.proofs.Laws.Kernels.{first-admits, last-admits, admits-all, parts_all}
use Rattle.counting.specs.Kernels.{all_at_once_of, in_two_parts}
use Rattle.counting.proofs.choice.cheapest.Goals as goal

pub returns-then-far-value_at : goal.returns-then-far-value_at
returns-then-far-value_at c = λ up ladder. all_at_once_of (first-admits up _ c.greatest_distance-far.ensures _ c.value_at.ensures c.if-far-value_at.true)

pub returns-then-only_last_admits : goal.returns-then-only_last_admits
returns-then-only_last_admits c = λ up ladder. all_at_once_of (last-admits up _ _ c.shortest_route-near.ensures c.greatest_distance-far.ensures (c.only_last_admits.ensures c.if-only_last_admits.true))

pub returns-then-is_next : goal.returns-then-is_next
returns-then-is_next c = λ up ladder. all_at_once_of (admits-all _ _ _ _ c.shortest_route-near.ensures (c.first_admitting-from.ensures.2 _ ladder) up _ c.greatest_distance-far.ensures (c.is_next.ensures.admits c.if-is_next.true))

pub returns-then-is_next-2 : goal.returns-then-is_next-2
returns-then-is_next-2 c = λ up ladder. in_two_parts (parts_all _ _ _ _ c.shortest_route-near.ensures (c.first_admitting-from.ensures.2 _ ladder) up (c.is_next.ensures.in_list c.if-is_next.false) _ c.greatest_distance-far.ensures (c.is_next-then-others-le-FEW_TO_COMPARE.ensures.admits c.if-is_next-2.true))
