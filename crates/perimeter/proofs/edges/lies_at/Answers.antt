use Rattle.model.proofs.Laws.Codes.{least-code}
use Rattle.perimeter.specs.Reach.{inside_distance}
use Rattle.perimeter.specs.Sight.{lies}
use Rattle.perimeter.proofs.edges.lies_at.Goals as goal

pub returns : goal.returns
unfolding lies inside_distance
returns c = least-code _ _ c.by_ends.ensures c.stretch.ensures c.lesser_code.ensures
