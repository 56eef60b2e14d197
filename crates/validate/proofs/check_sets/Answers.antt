use Rattle.model.proofs.Laws.CheckParts.{set-lists-accepted}
use Rattle.validate.proofs.Over.{over-accepted}
use Rattle.validate.proofs.check_sets.Goals as goal

pub check_values-requires : goal.check_values-requires
check_values-requires c = (set-lists-accepted _ _ _ (over-accepted _ _ _ c.check_lists-lists.ensures c.check_over.ensures c.in_ok-check_over.was)).1
