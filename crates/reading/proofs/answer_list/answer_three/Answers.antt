use Rattle.std.proofs.Common.{◌≡◌, refl, sym, ◌∙◌, Err, rules}
use Rattle.reading.proofs.Answering.{have-room, three-refused, three-filled}
use Rattle.reading.proofs.answer_list.answer_three.Goals as goal

pub returns-in_err-check_three : goal.returns-in_err-check_three
returns-in_err-check_three c =
    let told : c.from_residual.result ≡ Err c.in_err-check_three.field-0.0 = search rules in
    three-refused (told ∙ sym c.in_err-check_three.was ∙ c.check_three.ensures) told

pub fill-requires : goal.fill-requires
fill-requires c = (have-room _ _ _ _ _ _ (sym c.check_three.ensures ∙ c.in_ok-check_three.was)).one

pub fill-requires-2 : goal.fill-requires-2
fill-requires-2 c = (have-room _ _ _ _ _ _ (sym c.check_three.ensures ∙ c.in_ok-check_three.was)).two

pub fill-requires-3 : goal.fill-requires-3
fill-requires-3 c = (have-room _ _ _ _ _ _ (sym c.check_three.ensures ∙ c.in_ok-check_three.was)).three

pub returns : goal.returns
returns c = three-filled (sym c.in_ok-check_three.was ∙ c.check_three.ensures) refl c.fill.ensures c.fill-2.ensures c.fill-3.ensures
