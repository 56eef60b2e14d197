-- The six parts are written one after the other.
use mathlib.Core.Path.{◌∙◌}
use lib.ListN.{length-set}
use Rattle.edge_pair.specs.Edges.{side_of}
use Rattle.sweep.proofs.Laws.Six.{all-six}
use native.Mathlib.Omega.{arith}
use Rattle.sweep.proofs.sweeping.sweep_edges.Goals as goal

pub bounds-moves-1 : goal.bounds-moves-1
bounds-moves-1 c = simp length-set (omega (arith, c.requires.sums_room))

pub bounds-moves-2 : goal.bounds-moves-2
bounds-moves-2 c = simp length-set (omega (arith, c.requires.sums_room))

pub bounds-moves-3 : goal.bounds-moves-3
bounds-moves-3 c = simp length-set (omega (arith, c.requires.sums_room))

pub overflow_mul-n-3 : goal.overflow_mul-n-3
overflow_mul-n-3 c = omega (arith, c.requires.room, c.well_formed)

pub sweep_part-requires : goal.sweep_part-requires
sweep_part-requires c = record {
  first_ordered = c.requires.first_laid.ordered;
  second_ordered = c.requires.second_laid.ordered;
  few = c.requires.second_laid.few;
  room = omega (arith, c.requires.room, c);
}

pub bounds-moves-4 : goal.bounds-moves-4
bounds-moves-4 c = simp length-set (omega (arith, c.requires.sums_room))

pub overflow_mul-n-4 : goal.overflow_mul-n-4
overflow_mul-n-4 c = omega (arith, c.requires.room, c.well_formed)

pub sweep_part-requires-2 : goal.sweep_part-requires-2
sweep_part-requires-2 c = record {
  first_ordered = c.requires.first_laid.ordered;
  second_ordered = c.requires.second_laid.ordered;
  few = c.requires.second_laid.few;
  room = omega (arith, c.requires.room, c);
}

pub bounds-moves-5 : goal.bounds-moves-5
bounds-moves-5 c = simp length-set (omega (arith, c.requires.sums_room))

pub shape_of-positions : goal.shape_of-positions
shape_of-positions c = c.sweep_part-2.auto.positions
    ∙ c.sweep_part.auto.positions
    ∙ c.sweep_route-4.auto.positions
    ∙ c.sweep_route-3.auto.positions
    ∙ c.sweep_route-2.auto.positions
    ∙ c.sweep_route.auto.positions

pub shape_of-moves : goal.shape_of-moves
shape_of-moves c = simp length-set

pub returns : goal.returns
unfolding side_of
returns c = all-six _ _ _ _ _ _ _ _ _ _ _ _ _ _ _ _ _ _ _ _ c.requires c.sweep_route.ensures c.sweep_route-2.ensures c.sweep_route-3.ensures c.sweep_route-4.ensures c.below.ensures (c.sweep_part.ensures _ _ c.then_some-low.ensures) c.up_to.ensures (c.sweep_part-2.ensures _ _ c.then_some-high.ensures)
