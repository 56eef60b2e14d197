-- The verdict, told.
use Rattle.exports.proofs.Telling.{told}
use Rattle.exports.proofs.kc_distances_from.Goals as goal

pub returns-clause-told : goal.returns-clause-told
returns-clause-told c = told c.distances_from-answer.ensures.verdict c.tell.ensures
