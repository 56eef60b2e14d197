-- The verdict, told.
use Rattle.exports.proofs.Telling.{told}
use Rattle.exports.proofs.inner.kc_cursors.Goals as goal

pub returns-clause-told : goal.returns-clause-told
returns-clause-told c = told c.cursors-answer.ensures.verdict c.tell.ensures
