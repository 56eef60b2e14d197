-- The number stored with the event before the place.
use mathlib.Core.Path.{◌∙◌}
use native.Mathlib.Omega.{arith}
use Rattle.count_augmentation.proofs.Laws.Places.{stored-none, stored_some}
use Rattle.count_augmentation.proofs.look_up.stored_before.Goals as goal

pub returns-then-place-eq0 : goal.returns-then-place-eq0
returns-then-place-eq0 c = stored-none _ _ c.if-place-eq0.true

pub returns : goal.returns
returns c = c.value_at.ensures ∙ stored_some _ _ (omega arith)
