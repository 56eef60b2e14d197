-- Both ends of every event's edge are marked, so their rows are searched for.
use mathlib.Core.Path.{◌∙◌}
use Rattle.prepare.proofs.Laws.Ends.{is-network, markable, ends-filled, table_kept}
use Rattle.prepare.proofs.ends.fill_rows.Goals as goal

pub mark-requires : goal.mark-requires
mark-requires c = let n = is-network _ _ _ c.requires.0 in
    markable _ _ _ c.requires.0 _ n.firsts_length n.ends.first_is _ c.requires.1

pub mark-requires-2 : goal.mark-requires-2
mark-requires-2 c = let n = is-network _ _ _ c.requires.0 in
    markable _ _ _ c.requires.0 _ n.seconds_length n.ends.second_is _ (c.mark.auto.wanted ∙ c.requires.1)

pub returns : goal.returns
returns c = let long = c.mark-2.auto.wanted ∙ c.mark.auto.wanted ∙ c.requires.1 in
    record { ends_filled = ends-filled _ _ _ c.requires.0 c.mark.ensures c.mark-2.ensures long c.end_distances.ensures; table_kept = table_kept _ _ _ c.requires.0 c.mark.ensures c.mark-2.ensures long c.end_distances.ensures c.requires.2 c.requires.1 }
