-- The verdict, told.
use Rattle.exports.proofs.Telling.{told}
use Rattle.exports.proofs.counts.kc_range_counts.Goals as goal

pub returns-clause-told : goal.returns-clause-told
returns-clause-told c = told c.counts-answer.ensures.verdict c.tell.ensures
