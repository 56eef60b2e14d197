use mathlib.Core.Path.{◌∙◌}
use borrow.Author.Tests.{eq-eqb}
use Rattle.threshold_reader.proofs.ThresholdSteps.{above-none, above-some}
use Rattle.threshold_reader.proofs.thresholds.is_above.Goals as goal

pub returns-then-count-eq0 : goal.returns-then-count-eq0
returns-then-count-eq0 c = eq-eqb _ _ c.if-count-eq0.true ∙ above-none _ _ _ c.if-count-eq0.true

pub returns-else-count-eq0 : goal.returns-else-count-eq0
returns-else-count-eq0 c = above-some _ _ _ c.if-count-eq0.false c.requires
