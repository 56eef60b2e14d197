use mathlib.Core.Path.{sym, ◌∙◌}
use Rattle.model.proofs.Laws.CheckParts.{lone-edge-accepted}
use Rattle.validate.proofs.check_locations.Goals as goal

pub check_lone_offset-requires : goal.check_lone_offset-requires
check_lone_offset-requires c = let named = lone-edge-accepted _ _ (sym c.check_lone_edge.ensures ∙ c.in_ok-check_lone_edge.was) in
    (named.from, named.to)

pub check_lone_offset-requires-2 : goal.check_lone_offset-requires-2
check_lone_offset-requires-2 c = let named = lone-edge-accepted _ _ (sym c.check_lone_edge-2.ensures ∙ c.in_ok-check_lone_edge-2.was) in
    (named.from, named.to)
