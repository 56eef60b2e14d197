-- `follow`: see proofs/Going.
use mathlib.Core.Path.{◌∙◌, refl, sym}
use Prim.Native.Nat.{◌-◌}
use native.Mathlib.Omega.{arith}
use Rattle.distance.proofs.Going.{begun, an-arc, reach, going_start, going_more, going_done, offerable}
use Rattle.distance.proofs.search.follow.Goals as goal

pub offset_bounds-last-v : goal.offset_bounds-last-v
offset_bounds-last-v c = omega (arith, begun c.requires.ready c.requires.following)

pub bounds-last-v : goal.bounds-last-v
bounds-last-v c = omega (arith, begun c.requires.ready c.requires.following)

pub overflow_cast-h-2 : goal.overflow_cast-h-2
overflow_cast-h-2 c = omega (arith, begun c.requires.ready c.requires.following)

pub loop-h-init : goal.loop-h-init
loop-h-init c = (going_start c.requires.ready c.requires.following c.requires.keyed.0 c.requires.keyed.1, refl, refl, refl, refl)

pub tail_of-w-requires : goal.tail_of-w-requires
tail_of-w-requires c = ((reach c.loop-h.invariant.0 (c.loop-h.h - 1) (an-arc c.loop-h-test.true)).in-seconds, (reach c.loop-h.invariant.0 (c.loop-h.h - 1) (an-arc c.loop-h-test.true)).in-firsts)

pub offset_bounds-network-a : goal.offset_bounds-network-a
offset_bounds-network-a c = omega (arith, reach c.loop-h.invariant.0 (c.loop-h.h - 1) (an-arc c.loop-h-test.true))

pub bounds-network-a : goal.bounds-network-a
bounds-network-a c = (reach c.loop-h.invariant.0 (c.loop-h.h - 1) (an-arc c.loop-h-test.true)).in-lengths

pub overflow_add-entry : goal.overflow_add-entry
overflow_add-entry c = omega (arith, reach c.loop-h.invariant.0 (c.loop-h.h - 1) (an-arc c.loop-h-test.true))

pub offer-waiting-requires : goal.offer-waiting-requires
offer-waiting-requires c = offerable c.loop-h.invariant.0 (c.loop-h.h - 1) c.tail_of-w.result (an-arc c.loop-h-test.true) (sym c.tail_of-w.ensures)

pub offset_bounds-next-a : goal.offset_bounds-next-a
offset_bounds-next-a c = omega (arith, reach c.loop-h.invariant.0 (c.loop-h.h - 1) (an-arc c.loop-h-test.true))

pub bounds-next-a : goal.bounds-next-a
bounds-next-a c = (reach c.loop-h.invariant.0 (c.loop-h.h - 1) (an-arc c.loop-h-test.true)).in-next

pub overflow_cast-h-in-loop-h : goal.overflow_cast-h-in-loop-h
overflow_cast-h-in-loop-h c = omega (arith, reach c.loop-h.invariant.0 (c.loop-h.h - 1) (an-arc c.loop-h-test.true))

pub loop-h-smaller : goal.loop-h-smaller
loop-h-smaller c = omega (arith, reach c.loop-h.invariant.0 (c.loop-h.h - 1) (an-arc c.loop-h-test.true))

pub loop-h-preserved : goal.loop-h-preserved
loop-h-preserved c = let o = c.offer-waiting.auto in (
  going_more c.loop-h.invariant.0 (c.loop-h.h - 1) c.tail_of-w.result (an-arc c.loop-h-test.true) (sym c.tail_of-w.ensures) c.offer-waiting.ensures o.dist o.front,
  o.dist ∙ c.loop-h.invariant.1,
  o.front ∙ c.loop-h.invariant.2,
  o.keys ∙ c.loop-h.invariant.3,
  o.slots ∙ c.loop-h.invariant.4,
)

pub shape_of-dist : goal.shape_of-dist
shape_of-dist c = c.loop-h.invariant.1

pub shape_of-front : goal.shape_of-front
shape_of-front c = c.loop-h.invariant.2

pub shape_of-keys : goal.shape_of-keys
shape_of-keys c = c.loop-h.invariant.3

pub shape_of-slots : goal.shape_of-slots
shape_of-slots c = c.loop-h.invariant.4

pub returns : goal.returns
returns c = record { state = going_done c.loop-h.invariant.0 (omega arith); keyed_2 = c.loop-h.invariant.0.keyed }
