use Rattle.perimeter.proofs.Distances.{after_none, after-metres}
use Rattle.perimeter.proofs.codes.after.Goals as goal

pub returns-then-c-eq0 : goal.returns-then-c-eq0
returns-then-c-eq0 c = after_none _ _ c.if-c-eq0.true

pub returns : goal.returns
returns c = after-metres _ _ c.if-c-eq0.false
