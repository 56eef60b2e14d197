-- `from_end`: the distances of the second edge's ends, with the gaps.
use native.Mathlib.Omega.{arith}
use Rattle.model.specs.Location.{route}
use Rattle.between.proofs.Asking.{found}
use Rattle.between.proofs.Distances.{lesser-is, route-is}
use Rattle.between.proofs.Routes.{at_edge, from-end-is}
use Rattle.between.proofs.locations.from_end.Goals as goal

pub bounds-network-j : goal.bounds-network-j
bounds-network-j c = (at_edge c.requires.gap_le_max_length.1).in-firsts

pub metres_at-requires : goal.metres_at-requires
metres_at-requires c = let e = at_edge c.requires.gap_le_max_length.1 in
    (e.first_is.from_one, omega (arith, e.first_is.to_nodes, c.requires.asked.room, c.distances_from.auto))

pub with_gaps-by_first-requires : goal.with_gaps-by_first-requires
with_gaps-by_first-requires c = let e = at_edge c.requires.gap_le_max_length.1 in
    (c.requires.gap_le_max_length.0, (found c.requires.asked c.distances_from.ensures e.first_is c.metres_at.ensures).small, e.first-gap)

pub bounds-network-j-2 : goal.bounds-network-j-2
bounds-network-j-2 c = (at_edge c.requires.gap_le_max_length.1).in-seconds

pub metres_at-requires-2 : goal.metres_at-requires-2
metres_at-requires-2 c = let e = at_edge c.requires.gap_le_max_length.1 in
    (e.second_is.from_one, omega (arith, e.second_is.to_nodes, c.requires.asked.room, c.distances_from.auto))

pub with_gaps-by_second-requires : goal.with_gaps-by_second-requires
with_gaps-by_second-requires c = let e = at_edge c.requires.gap_le_max_length.1 in
    (c.requires.gap_le_max_length.0, (found c.requires.asked c.distances_from.ensures e.second_is c.metres_at-2.ensures).small, e.second-gap)

pub returns : goal.returns
unfolding route
returns c = let e = at_edge c.requires.gap_le_max_length.1 in
    let answered = c.distances_from.ensures in
    from-end-is _ _ _ _
    (lesser-is _ _
    (route-is _ _ _ ((found c.requires.asked answered e.first_is c.metres_at.ensures).whole (omega arith)) c.with_gaps-by_first.ensures)
    (route-is _ _ _ ((found c.requires.asked answered e.second_is c.metres_at-2.ensures).whole (omega arith)) c.with_gaps-by_second.ensures)
    c.lesser.ensures)
