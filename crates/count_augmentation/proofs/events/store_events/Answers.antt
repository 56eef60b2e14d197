-- The events in front of the place reached are stored; each turn stores those of one edge.
use native.Mathlib.Omega.{arith}
use Rattle.model.proofs.Laws.Equals.{Equals, equals-end}
use Rattle.count_augmentation.proofs.Laws.Edges.{RunCut, nothing_stored, edge-cut, edge-stored, all-events}
use Rattle.count_augmentation.proofs.events.store_events.Goals.{After-equals_end-to}
use Rattle.count_augmentation.proofs.events.store_events.Goals as goal

-- where the edge at hand ends
ended : (c : After-equals_end-to) → Equals c.args.edges.now c.loop-from.from c.equals_end-to.result
ended c = equals-end _ _ c.equals_end-to.ensures c.loop-from-test.true

-- the events of the edge at hand
cut : (c : After-equals_end-to) → RunCut c.args.offsets.now c.loop-from.near_first c.loop-from.near_second c.loop-from.from c.equals_end-to.result
cut c = edge-cut c.requires.0 c.requires.1 c.requires.2 c.loop-from.invariant (ended c)

pub loop-from-init : goal.loop-from-init
loop-from-init c = nothing_stored _ _ _ _

pub offset_bounds-offsets-from : goal.offset_bounds-offsets-from
offset_bounds-offsets-from c = omega (arith, (cut c).in_order, (cut c).few)

pub slice_bounds-store-count : goal.slice_bounds-store-count
slice_bounds-store-count c = (cut c).in_order

pub slice_bounds-store-start : goal.slice_bounds-store-start
slice_bounds-store-start c = (cut c).in_order

pub slice_bounds-store-end : goal.slice_bounds-store-end
slice_bounds-store-end c = (cut c).in_offsets

pub offset_bounds-near_first-from : goal.offset_bounds-near_first-from
offset_bounds-near_first-from c = omega (arith, (cut (goal.at.offset_bounds-near_first-from c).After-equals_end-to).in_order, (cut (goal.at.offset_bounds-near_first-from c).After-equals_end-to).few)

pub slice_bounds-store-count-in-loop-from : goal.slice_bounds-store-count-in-loop-from
slice_bounds-store-count-in-loop-from c = (cut (goal.at.slice_bounds-store-count-in-loop-from c).After-equals_end-to).in_order

pub slice_bounds-store-start-in-loop-from : goal.slice_bounds-store-start-in-loop-from
slice_bounds-store-start-in-loop-from c = (cut (goal.at.slice_bounds-store-start-in-loop-from c).After-equals_end-to).in_order

pub slice_bounds-store-end-in-loop-from : goal.slice_bounds-store-end-in-loop-from
slice_bounds-store-end-in-loop-from c = (cut (goal.at.slice_bounds-store-end-in-loop-from c).After-equals_end-to).in_first

pub offset_bounds-near_second-from : goal.offset_bounds-near_second-from
offset_bounds-near_second-from c = omega (arith, (cut (goal.at.offset_bounds-near_second-from c).After-equals_end-to).in_order, (cut (goal.at.offset_bounds-near_second-from c).After-equals_end-to).few)

pub slice_bounds-store-count-in-loop-from-2 : goal.slice_bounds-store-count-in-loop-from-2
slice_bounds-store-count-in-loop-from-2 c = (cut (goal.at.slice_bounds-store-count-in-loop-from-2 c).After-equals_end-to).in_order

pub slice_bounds-store-start-in-loop-from-2 : goal.slice_bounds-store-start-in-loop-from-2
slice_bounds-store-start-in-loop-from-2 c = (cut (goal.at.slice_bounds-store-start-in-loop-from-2 c).After-equals_end-to).in_order

pub slice_bounds-store-end-in-loop-from-2 : goal.slice_bounds-store-end-in-loop-from-2
slice_bounds-store-end-in-loop-from-2 c = (cut (goal.at.slice_bounds-store-end-in-loop-from-2 c).After-equals_end-to).in_second

pub loop-from-smaller : goal.loop-from-smaller
loop-from-smaller c = omega (arith, (ended (goal.at.loop-from-smaller c).After-equals_end-to).further, c.loop-from-test.true)

pub loop-from-preserved : goal.loop-from-preserved
loop-from-preserved c = edge-stored c.requires.0 c.requires.1 c.requires.2 c.loop-from.invariant (ended (goal.at.loop-from-preserved c).After-equals_end-to) _ _ c.near_first-1.given.1 c.near_second-1.given.1 c.store.ensures.numbers_stored

pub shape_of-near_first : goal.shape_of-near_first
shape_of-near_first c = c.loop-from.invariant.first-long

pub shape_of-near_second : goal.shape_of-near_second
shape_of-near_second c = c.loop-from.invariant.second-long

pub returns : goal.returns
returns c = all-events c.loop-from.invariant c.loop-from-test.false
