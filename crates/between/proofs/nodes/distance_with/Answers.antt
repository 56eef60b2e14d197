use Rattle.between.proofs.Asking.{found}
use Rattle.between.proofs.nodes.distance_with.Goals as goal

pub returns : goal.returns
returns c = found c.requires.asked c.distances_from.ensures c.requires.node c.metres_at.ensures
