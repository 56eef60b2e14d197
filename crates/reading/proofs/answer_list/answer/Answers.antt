use Rattle.std.proofs.Common.{◌≡◌, sym, ◌∙◌, Err, rules}
use Rattle.model.proofs.Laws.CheckParts.{room-accepted}
use Rattle.reading.proofs.Answering.{too_short, filled}
use Rattle.reading.proofs.answer_list.answer.Goals as goal

pub returns-in_err-check_room : goal.returns-in_err-check_room
returns-in_err-check_room c =
    let told : c.from_residual.result ≡ Err c.in_err-check_room.field-0.0 = search rules in
    rw told (too_short _ _ (sym c.check_room.ensures ∙ c.in_err-check_room.was))

pub fill-requires : goal.fill-requires
fill-requires c = room-accepted _ _ (sym c.check_room.ensures ∙ c.in_ok-check_room.was)

pub returns : goal.returns
returns c = filled _ _ (sym c.check_room.ensures ∙ c.in_ok-check_room.was) c.fill.ensures
