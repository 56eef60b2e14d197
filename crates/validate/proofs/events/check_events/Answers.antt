use mathlib.Core.Path.{sym, ◌∙◌}
use Rattle.model.proofs.Laws.CheckParts.{edges-accepted}
use Rattle.validate.proofs.events.check_events.Goals as goal

pub check_offsets-requires : goal.check_offsets-requires
check_offsets-requires c = let named = edges-accepted _ _ (sym c.check_edges.ensures ∙ c.in_ok-check_edges.was) in
    (c.requires, λ k h. ((named k h).from, (named k h).to))
