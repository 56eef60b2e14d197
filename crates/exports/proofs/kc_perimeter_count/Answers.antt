-- The answer, told.
use Rattle.exports.specs.Told.{count_of, value_or}
use Rattle.exports.proofs.kc_perimeter_count.Goals as goal

pub returns : goal.returns
unfolding count_of value_or
returns c = rw c.perimeter_count-answer.ensures at c.tell.ensures
