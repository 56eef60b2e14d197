-- The steps so far are the thresholds, the last one repeated.
use Rattle.range_query.specs.Spreading.{SpreadSteps}
use Rattle.range_query.proofs.spreading.spread_steps.Given as goal

abbrev pub invariant-loop-k : goal.invariant-loop-k
invariant-loop-k l = SpreadSteps l.thresholds l.k l.ladder
