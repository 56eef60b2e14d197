-- On two edges, each of four codes is 0.
use Rattle.std.proofs.Common.{rules}
use Rattle.counting.proofs.Laws.TwoEdges.{none-reached}
use Rattle.counting.proofs.two_edges.are_apart.Goals as goal

pub returns-then-not-pair : goal.returns-then-not-pair
returns-then-not-pair c = none-reached _ (search rules)
