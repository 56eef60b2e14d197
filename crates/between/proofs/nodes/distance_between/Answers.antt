-- `distance_between`: the check has accepted, so the search can be asked.
use Rattle.model.proofs.Laws.Checks.{nodes-accepted}
use Rattle.between.proofs.Asking.{can-ask}
use borrow.Author.Rules.{rules}
use Rattle.between.proofs.nodes.distance_between.Goals as goal

pub distance_with-requires : goal.distance_with-requires
distance_with-requires c = let a = nodes-accepted _ _ _ c.requires in
    record { asked = can-ask a.is-network a.first-node (search rules); node = a.second-node }
