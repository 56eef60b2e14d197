use mathlib.Core.Path.{sym, ◌∙◌}
use Rattle.model.proofs.Laws.CheckParts.{set-numbers-accepted}
use Rattle.validate.proofs.sets.check_values.Goals as goal

pub check_equal_sets-requires : goal.check_equal_sets-requires
check_equal_sets-requires c = set-numbers-accepted _ (sym c.check_set_numbers.ensures ∙ c.in_ok-check_set_numbers.was)
