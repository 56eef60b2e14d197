use mathlib.Core.Path.{◌∙◌}
use Rattle.model.proofs.Laws.Codes.{lesser-first-none, lesser-second-none, lesser-both}
use Rattle.model.proofs.code.lesser_code.Goals as goal

pub returns-then-a-eq0 : goal.returns-then-a-eq0
returns-then-a-eq0 c = lesser-first-none _ _ c.if-a-eq0.true

pub returns-then-b-eq0 : goal.returns-then-b-eq0
returns-then-b-eq0 c = lesser-second-none _ _ c.if-b-eq0.true

pub returns : goal.returns
returns c = c.min.ensures ∙ lesser-both _ _ c.if-a-eq0.false c.if-b-eq0.false
