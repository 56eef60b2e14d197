-- From the place reached on no threshold is below; the one before it is, and so are all before that.
use Rattle.count_augmentation.specs.Thresholds.{NotBelow}
use Rattle.count_augmentation.proofs.thresholds.walk_down.Given as goal

abbrev pub invariant-loop-k : goal.invariant-loop-k
invariant-loop-k l = NotBelow l.thresholds l.metres l.from → NotBelow l.thresholds l.metres l.k
