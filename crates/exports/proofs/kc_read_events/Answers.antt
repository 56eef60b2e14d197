-- The answer, told.
use Rattle.exports.specs.Told.{count_of, value_or}
use Rattle.exports.proofs.kc_read_events.Goals as goal

pub returns-clause-told_with : goal.returns-clause-told_with
unfolding count_of value_or
returns-clause-told_with c = rw c.read_events-answer.ensures.answer at c.tell.ensures
