use Rattle.pair_counts.proofs.Laws.Answered.{taken, refused-claim, sweep-asks, accepted-claim}
use Prim.Native.Nat.{min}
use Rattle.std.proofs.Common.{rules, ◌≡◌, ap, ◌∙◌, sym, Err}
use Rattle.pair_counts.proofs.claim.pair_counts_with.Goals as goal

pub returns-in_err-lowest : goal.returns-in_err-lowest
returns-in_err-lowest c =
    let told : c.from_residual.result ≡ Err c.in_err-lowest.field-0.0 = search rules in
    rw (told ∙ sym c.in_err-lowest.was) (refused-claim (record { counted = _; asked = _; roomy = _; inner = _; room-is = c.min-room.ensures ∙ ap (min _) c.min.ensures; ready = c.prepare-counted.ensures.ready; asked_is = c.check_asked-asked.ensures; roomy-is = c.check_room-roomy.ensures; inner-is = c.lowest.ensures; verdict-is = c.lowest-2.ensures }) c.in_err-lowest.was)

pub sweep_asked-requires : goal.sweep_asked-requires
sweep_asked-requires c = sweep-asks (taken {ranged = c.args.by_range.now} {augmented = c.args.by_augmentation.now} {shared = c.args.by_sharing.now} (record { counted = _; asked = _; roomy = _; inner = _; room-is = c.min-room.ensures ∙ ap (min _) c.min.ensures; ready = c.prepare-counted.ensures.ready; asked_is = c.check_asked-asked.ensures; roomy-is = c.check_room-roomy.ensures; inner-is = c.lowest.ensures; verdict-is = c.lowest-2.ensures }) c.in_ok-lowest.was) (search rules) (search rules) (search rules) (search rules)

pub returns : goal.returns
returns c = rw (← c.in_ok-lowest.was) (accepted-claim (record { counted = _; asked = _; roomy = _; inner = _; room-is = c.min-room.ensures ∙ ap (min _) c.min.ensures; ready = c.prepare-counted.ensures.ready; asked_is = c.check_asked-asked.ensures; roomy-is = c.check_room-roomy.ensures; inner-is = c.lowest.ensures; verdict-is = c.lowest-2.ensures }) c.in_ok-lowest.was c.count_each.ensures.counted c.count_each.ensures.counted_2 c.count_each.ensures.counted_3 c.sweep_asked.ensures)
