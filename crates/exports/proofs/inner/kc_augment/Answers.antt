-- The verdict, told.
use Rattle.exports.proofs.Telling.{told}
use Rattle.exports.proofs.inner.kc_augment.Goals as goal

pub returns-clause-told : goal.returns-clause-told
returns-clause-told c = told c.augment-answer.ensures.verdict c.tell.ensures
