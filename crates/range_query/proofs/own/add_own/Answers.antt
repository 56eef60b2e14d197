-- The events so far are counted with each other.
use Rattle.std.proofs.Common.{◌≡◌, ◌-◌, nat_eq, refl, length, arith, rules}
use Rattle.std.proofs.lemmas.List.Sorted.{answers_always}
use Rattle.range_query.proofs.Laws.Own.{own-none, own-parted, own-all}
use Rattle.range_query.proofs.Laws.Parted.{Parted, end-all, end-next, parted-many}
use Rattle.range_query.proofs.own.add_own.Goals as goal

pub loop-equals-init : goal.loop-equals-init
loop-equals-init c =
    let e : c.into_iter-equals-iterator.result.rest.now ≡ c.args.xs.now = cc in
    let none : length c.args.xs.now - length c.args.xs.now ≡ 0 = omega arith in
    rw (e, none) (end-all c.args.xs.now, refl, own-none c.args.ladder.now c.args.edges c.args.xs.now _)

pub loop-equals-preserved : goal.loop-equals-preserved
loop-equals-preserved c =
    let parted : Parted c.args.xs.now _ _ _ = record { end = c.loop-equals.invariant.0; joined = c.in-Some.ensures.steps.0; some = c.in-Some.ensures.steps.1; same = (c.in-Some.ensures.steps.2 nat_eq (answers_always _ _ _ (λ f a r g h. search rules))).1 } in
    (end-next parted, omega (arith, parted-many parted, (end-next parted).shorter, c.loop-equals.invariant.1), own-parted c.args.ladder.now c.args.edges c.args.xs.now c.requires.2 parted c.find-at_once.ensures c.loop-equals.invariant.2 (rw (← c.loop-equals.invariant.1) c.add_row_along.ensures) c.change_from.ensures)

pub returns : goal.returns
returns c = own-all c.args.ladder.now c.args.edges c.args.xs.now (omega (arith, c.in-None.ensures.steps.0)) c.loop-equals.invariant.2
