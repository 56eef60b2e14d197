use mathlib.Core.Path.{ap, ◌∙◌}
use Rattle.text.specs.ThresholdText.{take_number_of}
use Rattle.threshold_reader.proofs.thresholds.take_number.Goals as goal

pub returns-in-One : goal.returns-in-One
unfolding take_number_of
returns-in-One c = ap (take_number_of _) c.in-One.is ∙ c.take_threshold.ensures
