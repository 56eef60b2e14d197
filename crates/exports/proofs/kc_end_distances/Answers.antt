-- The verdict, told.
use Rattle.exports.proofs.Telling.{told}
use Rattle.exports.proofs.kc_end_distances.Goals as goal

pub returns-clause-told : goal.returns-clause-told
returns-clause-told c = told c.end_distances-answer.ensures.verdict c.tell.ensures
