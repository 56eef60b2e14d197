-- On refusal both lists are kept; otherwise the stored numbers stand in front.
use Rattle.std.proofs.Common.{rules, ◌≡◌, refl, sym, ◌∙◌, Err}
use Rattle.model.specs.Network.{network_of}
use Rattle.count_augmentation.proofs.Laws.Verdict.{AugmentAccepted, augment-accepted}
use lib.Seq.{length-take-le}
use Rattle.count_augmentation.proofs.Laws.Answers.{augment-refused, augment-answered}
use Rattle.count_augmentation.proofs.events.augment.Goals.{In_ok-check_augment}
use Rattle.count_augmentation.proofs.events.augment.Goals as goal

-- what acceptance tells
passed : (c : In_ok-check_augment) → AugmentAccepted (network_of c.args.network) c.args.edges.now c.args.offsets.now c.args.near_first.now c.args.near_second.now
passed c = augment-accepted _ _ _ _ _ (sym c.check_augment.ensures ∙ c.in_ok-check_augment.was)

pub returns-in_err-check_augment : goal.returns-in_err-check_augment
returns-in_err-check_augment c =
    let told : c.from_residual.result ≡ Err c.in_err-check_augment.field-0.0 = search rules in
    augment-refused (told ∙ sym c.in_err-check_augment.was ∙ c.check_augment.ensures) told

pub slice_bounds-store_events-end : goal.slice_bounds-store_events-end
slice_bounds-store_events-end c = (passed c).first_room_of

pub slice_bounds-store_events-end-2 : goal.slice_bounds-store_events-end-2
slice_bounds-store_events-end-2 c = sym (length-take-le _ _ (passed (goal.at.slice_bounds-store_events-end-2 c).In_ok-check_augment).first_room_of)

pub slice_bounds-store_events-end-3 : goal.slice_bounds-store_events-end-3
slice_bounds-store_events-end-3 c = (passed (goal.at.slice_bounds-store_events-end-3 c).In_ok-check_augment).second_room_of

pub slice_bounds-store_events-end-4 : goal.slice_bounds-store_events-end-4
slice_bounds-store_events-end-4 c = sym (length-take-le _ _ (passed (goal.at.slice_bounds-store_events-end-4 c).In_ok-check_augment).second_room_of)

pub store_events-requires : goal.store_events-requires
store_events-requires c = (
  (passed (goal.at.store_events-requires c).In_ok-check_augment).in_order,
  length-take-le _ _ (passed (goal.at.store_events-requires c).In_ok-check_augment).first_room_of,
  length-take-le _ _ (passed (goal.at.store_events-requires c).In_ok-check_augment).second_room_of,
)

pub shape_of-near_first : goal.shape_of-near_first
shape_of-near_first c = c.near_first-1.given.1

pub shape_of-near_second : goal.shape_of-near_second
shape_of-near_second c = c.near_second-1.given.1

pub returns : goal.returns
returns c = augment-answered (sym c.in_ok-check_augment.was ∙ c.check_augment.ensures) refl (passed (goal.at.returns c).In_ok-check_augment) _ _ c.near_first-1.given.1 c.near_second-1.given.1 c.store_events.ensures
