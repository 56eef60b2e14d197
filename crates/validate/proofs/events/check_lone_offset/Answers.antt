use mathlib.Core.Path.{sym, ◌∙◌}
use Rattle.model.proofs.Laws.Refusal.{unless-accepts, unless-refuses}
use Rattle.model.specs.Checks.{lone_offset_check}
use Rattle.validate.proofs.events.check_lone_offset.Goals as goal

pub returns-then-not-is_on_edge : goal.returns-then-not-is_on_edge
unfolding lone_offset_check
returns-then-not-is_on_edge c = sym (unless-refuses _ _ _ (sym c.is_on_edge.ensures ∙ c.if-not-is_on_edge.true))

pub returns : goal.returns
unfolding lone_offset_check
returns c = sym (unless-accepts _ _ _ (sym c.is_on_edge.ensures ∙ c.if-not-is_on_edge.false))
