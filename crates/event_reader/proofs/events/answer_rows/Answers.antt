use Rattle.std.proofs.Common.{◌≡◌, sym, ◌∙◌, Err, rules}
use Rattle.model.proofs.Laws.Answer.{answer-refused, answer-accepted}
use Rattle.event_reader.proofs.WholeEvents.{sets-refused, rooms-answered}
use Rattle.event_reader.proofs.events.answer_rows.Goals as goal

pub returns-in_err-check_sets : goal.returns-in_err-check_sets
returns-in_err-check_sets c =
    let told : c.from_residual.result ≡ Err c.in_err-check_sets.field-0.0 = search rules in
    rw told (sets-refused (sym c.check_sets.ensures ∙ c.in_err-check_sets.was))

pub returns-in_err-answer_three : goal.returns-in_err-answer_three
returns-in_err-answer_three c =
    let told : c.from_residual-in_err-answer_three.result ≡ Err c.in_err-answer_three.field-0.0 = search rules in
    rw told (rooms-answered (sym c.check_sets.ensures ∙ c.in_ok-check_sets.was) c.answer_three.ensures (answer-refused _ c.in_err-answer_three.was))

pub returns : goal.returns
returns c = rooms-answered (sym c.check_sets.ensures ∙ c.in_ok-check_sets.was) c.answer_three.ensures (answer-accepted _ c.in_ok-answer_three.was)
