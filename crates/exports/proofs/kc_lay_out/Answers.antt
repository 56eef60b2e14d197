-- The verdict, told.
use Rattle.exports.proofs.Telling.{told}
use Rattle.exports.proofs.kc_lay_out.Goals as goal

pub returns-clause-told : goal.returns-clause-told
returns-clause-told c = told c.lay_out-answer.ensures.verdict c.tell.ensures
