-- Too little room decides alone; otherwise the set is checked as one laid out.
use mathlib.Core.Path.{◌∙◌}
use native.Mathlib.Omega.{arith}
use Rattle.count_augmentation.proofs.Laws.Verdict.{no-room-first, no-room-second, with-room}
use Rattle.count_augmentation.proofs.events.check_augment.Goals as goal

pub returns-then-near_first-edges : goal.returns-then-near_first-edges
returns-then-near_first-edges c = no-room-first _ _ _ _ _ c.if-near_first-edges.true

pub returns-then-near_second-edges : goal.returns-then-near_second-edges
returns-then-near_second-edges c = no-room-second _ _ _ _ _ c.if-near_second-edges.true

pub returns : goal.returns
returns c = c.check_laid_out.ensures ∙ with-room _ _ _ _ _ (omega (arith, c.if-near_first-edges.false)) (omega (arith, c.if-near_second-edges.false))
