use mathlib.Core.Path.{sym, ◌∙◌}
use Rattle.model.proofs.Laws.CheckParts.{lists-accepted}
use Rattle.validate.proofs.network.check_over.Goals as goal

pub check_values-requires : goal.check_values-requires
check_values-requires c = lists-accepted _ (sym c.check_lists.ensures ∙ c.in_ok-check_lists.was)
