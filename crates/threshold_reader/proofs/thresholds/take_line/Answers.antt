use mathlib.Core.Path.{sym, ap, ◌∙◌}
use Rattle.text.specs.ThresholdText.{threshold_step, take_number_of}
use Rattle.threshold_reader.proofs.thresholds.take_line.Goals as goal

pub returns : goal.returns
unfolding threshold_step
returns c = ap (take_number_of _) (sym c.numbers_of.ensures) ∙ c.take_number.ensures
