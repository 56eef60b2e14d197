use mathlib.Core.Path.{sym, ◌∙◌}
use Rattle.model.proofs.Laws.Refusal.{unless-accepts, unless-refuses}
use Rattle.model.specs.Checks.{lone_edge_check}
use Rattle.validate.proofs.events.check_lone_edge.Goals as goal

pub returns-then-not-names_one : goal.returns-then-not-names_one
unfolding lone_edge_check
returns-then-not-names_one c = sym (unless-refuses _ _ _ (sym c.names_one.ensures ∙ c.if-not-names_one.true))

pub returns : goal.returns
unfolding lone_edge_check
returns c = sym (unless-accepts _ _ _ (sym c.names_one.ensures ∙ c.if-not-names_one.false))
