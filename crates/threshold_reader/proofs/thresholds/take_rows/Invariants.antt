use mathlib.Core.Path.{◌≡◌}
use Prim.Native.Nat.{◌-◌}
use lib.ListN.{length}
use Rattle.threshold_reader.proofs.ThresholdRows.{ThresholdsSoFar}
use Rattle.threshold_reader.proofs.thresholds.take_rows.Given as goal

abbrev pub invariant-loop-at : goal.invariant-loop-at
invariant-loop-at l = ThresholdsSoFar l.rows l.list l.at l.count × (length l.list ≡ length l.initial.list)

abbrev pub decreases-loop-at : goal.decreases-loop-at
decreases-loop-at l = length l.rows - l.at
