-- The answer, told.
use Rattle.exports.proofs.kc_node_distance.Goals as goal

pub returns : goal.returns
returns c = rw c.node_distance-answer.ensures at c.tell_length.ensures
