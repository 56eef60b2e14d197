use Rattle.perimeter.proofs.Distances.{at-radius}
use Rattle.perimeter.proofs.codes.is_at.Goals as goal

pub returns : goal.returns
returns c = at-radius _ _
