-- `distance_with`: the routes from both ends of the first edge, and the stretch.
use native.Mathlib.Omega.{arith}
use Rattle.between.proofs.Asking.{can-ask}
use Rattle.between.proofs.Distances.{lesser-is}
use Rattle.between.proofs.Routes.{at_edge, edge-is}
use Rattle.between.proofs.locations.distance_with.Goals as goal

pub bounds-network-i : goal.bounds-network-i
bounds-network-i c = (at_edge c.requires.on_edge.0).in-firsts

pub from_end-from_first-requires : goal.from_end-from_first-requires
from_end-from_first-requires c = let e = at_edge c.requires.on_edge.0 in
    record { asked = can-ask e.is-network e.first_is c.requires.max_nodes_in_bounds; gap_le_max_length = (e.first-gap, c.requires.on_edge.1) }

pub bounds-network-i-2 : goal.bounds-network-i-2
bounds-network-i-2 c = (at_edge c.requires.on_edge.0).in-seconds

pub from_end-from_second-requires : goal.from_end-from_second-requires
from_end-from_second-requires c = let e = at_edge c.requires.on_edge.0 in
    record { asked = can-ask e.is-network e.second_is (omega (arith, c.requires.max_nodes_in_bounds, c.from_end-from_first.auto)); gap_le_max_length = (e.second-gap, c.requires.on_edge.1) }

pub returns : goal.returns
returns c = edge-is _ _ _ _ _
    (lesser-is _ _ (lesser-is _ _ c.from_end-from_first.ensures c.from_end-from_second.ensures c.lesser-by_ends.ensures) c.along_edge-stretch.ensures c.lesser.ensures)
