-- The answer, told.
use Rattle.exports.proofs.kc_read_network.Goals as goal

pub returns-clause-told_network : goal.returns-clause-told_network
returns-clause-told_network c = rw c.read_network-answer.ensures.answer at c.tell_network.ensures
