use Rattle.perimeter.specs.Reach.{by_ends_of}
use Rattle.model.proofs.Laws.Codes.{least-code}
use Rattle.perimeter.proofs.codes.by_ends.Goals as goal

pub returns : goal.returns
unfolding by_ends_of
returns c = least-code _ _ c.after.ensures c.after-2.ensures c.lesser_code.ensures
