-- The answer, told.
use Rattle.exports.proofs.kc_location_distance.Goals as goal

pub returns : goal.returns
returns c = rw c.location_distance-answer.ensures at c.tell_length.ensures
