-- Both ends of the envelopes of the columns so far are stored.
use native.Mathlib.Omega.{arith}
use Rattle.table.specs.Table.{leasts, greatests}
use Rattle.table.proofs.Laws.Spans.{stored-none, stored_more, stored-all}
use Rattle.table.proofs.spans.fill_spans.Goals as goal

pub loop-k-init : goal.loop-k-init
loop-k-init c = (stored-none _ _ _ _ _ c.requires.2, stored-none _ _ _ _ _ c.requires.3)

pub span_at-span-requires : goal.span_at-span-requires
span_at-span-requires c = record { rows_there = c.requires.0; some = c.requires.1; inside = omega arith }

pub offset_bounds-lower-k : goal.offset_bounds-lower-k
offset_bounds-lower-k c = omega arith

pub bounds-lower-k : goal.bounds-lower-k
bounds-lower-k c = omega arith

pub offset_bounds-upper-k : goal.offset_bounds-upper-k
offset_bounds-upper-k c = omega arith

pub bounds-upper-k : goal.bounds-upper-k
bounds-upper-k c = omega arith

pub loop-k-preserved : goal.loop-k-preserved
loop-k-preserved c = (
  stored_more _ _ _ _ _ _ c.loop-k.invariant.0 c.loop-k-test.true c.span_at-span.ensures,
  stored_more _ _ _ _ _ _ c.loop-k.invariant.1 c.loop-k-test.true c.span_at-span.ensures,
)

pub shape_of-lower : goal.shape_of-lower
shape_of-lower c = omega (arith, c.loop-k.invariant.0.long)

pub shape_of-upper : goal.shape_of-upper
shape_of-upper c = omega (arith, c.loop-k.invariant.1.long)

pub returns : goal.returns
unfolding leasts greatests
returns c = (
  stored-all _ _ _ _ c.loop-k.invariant.0 c.loop-k-test.false,
  stored-all _ _ _ _ c.loop-k.invariant.1 c.loop-k-test.false,
)
