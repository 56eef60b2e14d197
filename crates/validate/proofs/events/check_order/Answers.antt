use mathlib.Core.Path.{sym}
use Rattle.std.proofs.Common.{arith, rules, get_or}
use Rattle.std.proofs.Common.{not, pred}
use Rattle.model.proofs.Laws.Refusal.{all-good}
use Rattle.model.specs.Checks.{order_check}
use Rattle.model.specs.Events.{event, before}
use Rattle.validate.proofs.events.check_order.Goals as goal

pub returns-then-not-any_below : goal.returns-then-not-any_below
unfolding order_check
returns-then-not-any_below c = sym (all-good _ _ 1 _ (λ i l u. simp (c.any_below.ensures c.if-not-any_below.true i l (omega arith))))

pub returns : goal.returns
unfolding order_check
returns c =
    let es = c.args.edges.now in
    let xs = c.args.offsets.now in
    c.first_bad.ensures (λ k. not (before (event (get_or es k 0) (get_or xs k 0)) (event (get_or es (pred k) 0) (get_or xs (pred k) 0)))) _ (omega arith) (λ k r from to says. search rules)
