use native.Mathlib.Omega.{arith}
use lib.ListN.{get_or}
use Rattle.validate.proofs.SetSizes.{counted_none, counted-more, counted-all, size_small}
use Rattle.validate.proofs.sets.count_sets.Goals as goal

pub loop-set-init : goal.loop-set-init
loop-set-init c = counted_none _

pub offset_bounds-sizes-set : goal.offset_bounds-sizes-set
offset_bounds-sizes-set c = let h = c.requires c.loop-set.set-index (omega arith) in omega arith

pub bounds-sizes-set : goal.bounds-sizes-set
bounds-sizes-set c = let h = c.requires c.loop-set.set-index (omega arith) in omega arith

pub overflow_add-sizes : goal.overflow_add-sizes
overflow_add-sizes c = let sets = c.args.sets.now in
    let set = get_or sets c.loop-set.set-index 0 in
    omega (arith, c.loop-set.invariant.counted set (c.requires c.loop-set.set-index (omega arith)), size_small sets set)

pub bounds-sizes-set-in-loop-set : goal.bounds-sizes-set-in-loop-set
bounds-sizes-set-in-loop-set c = let h = c.requires c.loop-set.set-index (omega arith) in omega arith

pub loop-set-preserved : goal.loop-set-preserved
loop-set-preserved c = counted-more _ _ _ c.loop-set.invariant (omega arith) (c.requires _ (omega arith))

pub returns : goal.returns
returns c = counted-all _ _ _ c.loop-set.invariant (omega arith)
