-- By the flag.
use Rattle.count_augmentation.specs.Thresholds.{some_from_of}
use Rattle.count_augmentation.proofs.pairs.some_from.Goals as goal

pub returns-then-own : goal.returns-then-own
unfolding some_from_of
returns-then-own c = simp c.if-own.true

pub returns-else-own : goal.returns-else-own
unfolding some_from_of
returns-else-own c = simp c.if-own.false c.min.ensures
