use mathlib.Core.Path.{◌∙◌}
use Rattle.perimeter.proofs.Distances.{left-none, left-metres}
use Rattle.perimeter.proofs.codes.left.Goals as goal

pub returns-then-c-eq0 : goal.returns-then-c-eq0
returns-then-c-eq0 c = left-none _ _ c.if-c-eq0.true

pub returns : goal.returns
returns c = c.saturating_sub.ensures ∙ left-metres _ _ c.if-c-eq0.false
