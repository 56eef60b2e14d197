-- What is looked up for the events passed has been added.
use mathlib.Core.Path.{◌≡◌, refl, sym}
use native.Mathlib.Omega.{arith}
use lib.ListN.{length, get_or}
use Rattle.model.proofs.Laws.Equals.{Equals, equals-end, sum-equals}
use Rattle.model.specs.Counting.{sum_below}
use Rattle.edge_pair.proofs.Laws.Totals.{added_none, added_then, added-as}
use Rattle.edge_pair.specs.Offsets.{Ordered}
use Rattle.edge_pair.specs.Totals.{Added}
use Rattle.count_augmentation.specs.LookUp.{looked_up_by, looked_up_pairs}
use Rattle.count_augmentation.proofs.Laws.Reach.{pairs-reached}
use borrow.Author.Rules.{rules}
use Rattle.count_augmentation.proofs.pairs.add_pairs.Goals.{After-equals_end-next, After-loop-i}
use Rattle.count_augmentation.proofs.pairs.add_pairs.Goals as goal

-- the events at one offset
ended : (c : After-equals_end-next) → Equals c.args.xs.now c.loop-i.i c.equals_end-next.result
ended c = equals-end _ _ c.equals_end-next.ensures c.loop-i-test.true

-- all have been
looked : (c : After-loop-i) → Ordered c.args.thresholds.now → Added (length c.args.thresholds.now) (λ k. looked_up_pairs c.args.edges (get_or c.args.thresholds.now k 0) c.args.xs.now c.args.ys.now c.args.near_first.now c.args.near_second.now) c.args.totals.now c.loop-i.totals
unfolding looked_up_pairs
looked c =
    λ rising. let end : c.loop-i.i ≡ length c.args.xs.now = omega (arith, c.loop-i.invariant.0, c.loop-i-test.false) in
    rw (← end) (c.loop-i.invariant.2 rising)

pub returns-then-xs-gt-MAX_EVENTS : goal.returns-then-xs-gt-MAX_EVENTS
returns-then-xs-gt-MAX_EVENTS c = record { added = λ rising few. absurd (omega (arith, c.if-xs-gt-MAX_EVENTS.true)); added_2 = λ rising laid first-long second-long stored. absurd (omega (arith, c.if-xs-gt-MAX_EVENTS.true, laid.first_laid.few)) }

pub loop-i-init : goal.loop-i-init
unfolding sum_below
loop-i-init c = (omega arith, refl, λ rising. added_none _ _)

pub overflow_sub-events : goal.overflow_sub-events
overflow_sub-events c = omega (arith, (ended c).further)

pub add_events-place-requires : goal.add_events-place-requires
add_events-place-requires c = (omega (arith, (ended (goal.at.add_events-place-requires c).After-equals_end-next).within, c.if-xs-gt-MAX_EVENTS.false), c.count_all-all.ensures)

pub loop-i-smaller : goal.loop-i-smaller
loop-i-smaller c = omega (arith, (ended (goal.at.loop-i-smaller c).After-equals_end-next).further, (ended (goal.at.loop-i-smaller c).After-equals_end-next).within)

pub loop-i-preserved : goal.loop-i-preserved
loop-i-preserved c = (
  (ended (goal.at.loop-i-preserved c).After-equals_end-next).within,
  search rules,
  λ rising.
      added-as
      (λ k h. sym (sum-equals (λ x. looked_up_by c.args.edges (get_or c.args.thresholds.now k 0) x c.args.ys.now c.args.near_first.now c.args.near_second.now) (ended (goal.at.loop-i-preserved c).After-equals_end-next)))
      (added_then (c.loop-i.invariant.2 rising) (c.add_events-place.ensures rising)),
)

pub shape_of-totals : goal.shape_of-totals
shape_of-totals c = c.loop-i.invariant.1

pub returns : goal.returns
unfolding looked_up_pairs
returns c = record {
  added = λ rising few. (looked c) rising;
  added_2 = λ rising laid first-long second-long stored.
      added-as
      (λ k h. pairs-reached c.args.edges laid.second_laid first-long second-long stored (get_or c.args.thresholds.now k 0) (c.type_inv.thresholds k).fits c.args.xs.now)
      ((looked c) rising);
}
