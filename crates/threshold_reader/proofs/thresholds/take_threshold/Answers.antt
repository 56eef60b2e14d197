use mathlib.Core.Path.{sym, ◌∙◌}
use native.Mathlib.Omega.{arith}
use Rattle.threshold_reader.specs.Steps.{thresholds_after}
use Rattle.threshold_reader.proofs.ThresholdSteps.{one-too-many, not-above, threshold-taken}
use Rattle.threshold_reader.proofs.thresholds.take_threshold.Goals as goal

pub returns-then-count-ge-MAX_THRESHOLDS : goal.returns-then-count-ge-MAX_THRESHOLDS
unfolding thresholds_after
returns-then-count-ge-MAX_THRESHOLDS c = one-too-many _ _ _ (omega arith) c.if-count-ge-MAX_THRESHOLDS.true

pub returns-then-not-is_above : goal.returns-then-not-is_above
unfolding thresholds_after
returns-then-not-is_above c = let a = c.args in
    not-above a.list.now a.count a.t (omega arith) (omega arith) (sym c.is_above.ensures ∙ c.if-not-is_above.true)

pub returns : goal.returns
unfolding thresholds_after
returns c = let a = c.args in
    threshold-taken a.list.now a.count a.t (omega arith) (omega arith) (omega arith) (sym c.is_above.ensures ∙ c.if-not-is_above.false)
