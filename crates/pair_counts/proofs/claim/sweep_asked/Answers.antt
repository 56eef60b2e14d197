use Rattle.prepare.specs.Prepared.{greatest}
use lib.ListN.{length}
use native.Mathlib.Numerals.{sub-one}
use Rattle.pair_counts.proofs.Laws.AskedSet.{asked-inside, part-is}
use borrow.Author.Rules.{rules}
use Rattle.pair_counts.proofs.claim.sweep_asked.Goals as goal

pub set_bound-start-requires : goal.set_bound-start-requires
set_bound-start-requires c = rw c.greatest_set.ensures c.requires.begin

pub set_bound-end-requires : goal.set_bound-end-requires
set_bound-end-requires c = rw c.greatest_set.ensures c.requires.end

pub offset_bounds-laid_edges-start : goal.offset_bounds-laid_edges-start
offset_bounds-laid_edges-start c = let h = asked-inside c.requires c.greatest_set.ensures c.set_bound-start.ensures c.set_bound-end.ensures in search rules

pub slice_bounds-cursors-count : goal.slice_bounds-cursors-count
slice_bounds-cursors-count c = let h = asked-inside c.requires c.greatest_set.ensures c.set_bound-start.ensures c.set_bound-end.ensures in search rules

pub slice_bounds-cursors-start : goal.slice_bounds-cursors-start
slice_bounds-cursors-start c = let h = asked-inside c.requires c.greatest_set.ensures c.set_bound-start.ensures c.set_bound-end.ensures in search rules

pub slice_bounds-cursors-end : goal.slice_bounds-cursors-end
slice_bounds-cursors-end c = let h = asked-inside c.requires c.greatest_set.ensures c.set_bound-start.ensures c.set_bound-end.ensures in search rules

pub offset_bounds-laid_offsets-start : goal.offset_bounds-laid_offsets-start
offset_bounds-laid_offsets-start c = let h = asked-inside c.requires c.greatest_set.ensures c.set_bound-start.ensures c.set_bound-end.ensures in search rules

pub slice_bounds-cursors-count-2 : goal.slice_bounds-cursors-count-2
slice_bounds-cursors-count-2 c = let h = asked-inside c.requires c.greatest_set.ensures c.set_bound-start.ensures c.set_bound-end.ensures in search rules

pub slice_bounds-cursors-start-2 : goal.slice_bounds-cursors-start-2
slice_bounds-cursors-start-2 c = let h = asked-inside c.requires c.greatest_set.ensures c.set_bound-start.ensures c.set_bound-end.ensures in search rules

pub slice_bounds-cursors-end-2 : goal.slice_bounds-cursors-end-2
slice_bounds-cursors-end-2 c = let h = asked-inside c.requires c.greatest_set.ensures c.set_bound-start.ensures c.set_bound-end.ensures in search rules

pub returns : goal.returns
unfolding greatest
returns c = rw (← (part-is c.requires c.greatest_set.ensures c.set_bound-start.ensures c.set_bound-end.ensures _), ← (part-is c.requires c.greatest_set.ensures c.set_bound-start.ensures c.set_bound-end.ensures _), ← (sub-one (length c.args.thresholds.now))) c.cursors.ensures
