-- The pairs of the events so far are counted, those at one offset together.
use Rattle.std.proofs.Common.{◌≡◌, ◌-◌, nat_eq, length, arith, rules}
use Rattle.std.proofs.lemmas.List.Sorted.{answers_always}
use Rattle.range_query.proofs.Laws.Parted.{Parted, end-all, end-next}
use Rattle.range_query.proofs.Laws.Within.{pairs-begin, pairs-onward, pairs-counted}
use Rattle.range_query.proofs.within.count_within.Goals as goal

pub loop-equals-init : goal.loop-equals-init
loop-equals-init c =
    let e : c.into_iter-equals-iterator.result.rest.now ≡ c.args.xs.now = cc in
    let none : length c.args.xs.now - length c.args.xs.now ≡ 0 = omega arith in
    rw (e, none) (end-all c.args.xs.now, pairs-begin _ _ _ _)

pub loop-equals-preserved : goal.loop-equals-preserved
loop-equals-preserved c =
    let parted : Parted c.args.xs.now _ _ _ = record { end = c.loop-equals.invariant.0; joined = c.in-Some.ensures.steps.0; some = c.in-Some.ensures.steps.1; same = (c.in-Some.ensures.steps.2 nat_eq (answers_always _ _ _ (λ f a r g h. search rules))).1 } in
    (end-next parted, pairs-onward _ _ _ _ c.if-ys-gt-MAX_EVENTS.false c.loop-equals.invariant.1 parted c.count_row.ensures.0 c.count_row.ensures.1)

pub returns : goal.returns
returns c = λ few-xs few-ys. pairs-counted _ _ _ _ (omega (arith, c.ranges.threshold)) c.loop-equals.invariant.1 (omega (arith, c.in-None.ensures.steps.0))
