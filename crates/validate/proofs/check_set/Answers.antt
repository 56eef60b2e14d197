use Rattle.model.proofs.Laws.CheckParts.{same-length-accepted}
use Rattle.validate.proofs.Over.{over-accepted}
use Rattle.validate.proofs.check_set.Goals as goal

pub check_events-requires : goal.check_events-requires
check_events-requires c = same-length-accepted _ _ (over-accepted _ _ _ c.same_length-lists.ensures c.check_over.ensures c.in_ok-check_over.was)
