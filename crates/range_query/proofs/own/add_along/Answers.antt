-- The events so far are counted, those at one offset together.
use Rattle.std.proofs.Common.{◌≡◌, ℕ, nat_eq, leb, rules}
use Rattle.std.proofs.lemmas.List.Sorted.{answers_always}
use Rattle.std.specs.Slice.Iter.{chunk_by_rest}
use Rattle.model.specs.Counting.{count_if}
use Rattle.range_query.specs.Ladder.{bucket_in}
use Rattle.range_query.specs.Metres.{metres_between, tallied}
use Rattle.range_query.proofs.Laws.Parted.{Parted, end-all, end-next, events-none, events-more, events-all}
use Rattle.range_query.proofs.own.add_along.Goals.{Start}
use Rattle.range_query.proofs.own.add_along.Goals as goal

-- the pairs of an event at an offset up to a bucket
row : (c : Start) → ℕ → ℕ → ℕ
row c k x = count_if (λ y. leb (bucket_in c.args.ladder.now (metres_between c.args.edges x y)) k) c.args.ys.now

pub loop-equals-init : goal.loop-equals-init
unfolding row
loop-equals-init c =
    let e : c.into_iter-equals-iterator.result.rest.now ≡ c.args.xs.now = cc in
    rw e (end-all c.args.xs.now, events-none _ (row (goal.at.loop-equals-init c).Start) c.args.xs.now _)

pub loop-equals-preserved : goal.loop-equals-preserved
unfolding row
loop-equals-preserved c =
    let parted : Parted c.args.xs.now _ _ _ = record { end = c.loop-equals.invariant.0; joined = c.in-Some.ensures.steps.0; some = c.in-Some.ensures.steps.1; same = (c.in-Some.ensures.steps.2 nat_eq (answers_always _ _ _ (λ f a r g h. search rules))).1 } in
    (end-next parted, events-more _ (row (goal.at.loop-equals-preserved c).Start) parted c.loop-equals.invariant.1 c.add_row_along.ensures)

pub returns : goal.returns
unfolding tallied row
returns c = events-all _ (row (goal.at.returns c).Start) c.args.xs.now (chunk_by_rest c.loop-equals.equals-iterator) c.in-None.ensures.steps.0 c.loop-equals.invariant.1
