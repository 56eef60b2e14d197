-- Locations (01: places), walks between them and their distance.
use Rattle.std.specs.Prelude.{Bool, cond, ℕ, ◌+◌, ◌-◌, ◌≤◌, ◌<◌, eqb}
use mathlib.Core.List.{List, [], ◌∷◌, map, Memᴰ}
use Rattle.model.specs.Network.{Network, IsNode, edges, first, second, size}
use Rattle.model.specs.Distance.{Distance, metres, none, least, plus, least_of, within, difference}
use Rattle.model.specs.Walk.{Walk, IsLeast}
use Rattle.model.specs.NodeDistance.{node_distance_of}

-- a node, or the edge at an index with an offset strictly inside it
pub data Location : Type 0 where
  node : ℕ → Location
  inside : ℕ → ℕ → Location

-- the location at an offset from the first node of the edge at an index; the edge's ends are nodes. Of a loop
-- offset 0 and the full length are one node (proofs/Laws/Loops).
unfoldable pub location_of : Network → ℕ → ℕ → Location
location_of net i offset =
    cond (eqb offset 0) (node (first net i)) (cond (eqb offset (size net i)) (node (second net i)) (inside i offset))

-- p is a location of the network
pub data IsLocation (net : Network) : Location → Type 0 where
  a_node : {v : ℕ} → IsNode net v → IsLocation net (node v)
  an_inside : {i x : ℕ} → i < edges net → 1 ≤ x → x < size net i → IsLocation net (inside i x)

-- a node where a walk may leave a location, and the gap: the metres to it along the location's own edge in one direction
pub record End : Type 0 where
  pub at : ℕ
  pub gap : ℕ

abbrev pub end : ℕ → ℕ → End
end at gap = record { at = at; gap = gap }

-- the two ends of the edge at index i, seen from an offset: of a loop one node with two gaps
unfoldable pub edge_ends : Network → ℕ → ℕ → List End
edge_ends net i x = end (first net i) x ∷ end (second net i) (size net i - x) ∷ []

-- a node is its own only end, at gap 0
unfoldable pub ends : Network → Location → List End
ends net (node v) = end v 0 ∷ []
ends net (inside i x) = edge_ends net i x

-- a walk between two locations, with its length: from an end of the first by a node walk to an end of the second,
-- or along one edge from one offset to the other
pub data LocationWalk (net : Network) : Location → Location → ℕ → Type 0 where
  through_ends : {p q : Location} {a b : End} {n : ℕ} → Memᴰ a (ends net p) → Memᴰ b (ends net q) → Walk net a.at b.at n → LocationWalk net p q (a.gap + n + b.gap)
  along : {i x y : ℕ} → LocationWalk net (inside i x) (inside i y) (difference x y)

-- the shortest route between two locations by these ends: a gap, the node distance and a gap
unfoldable pub route : Network → End → End → Distance
route net a b = plus (plus (metres a.gap) (node_distance_of net a.at b.at)) (metres b.gap)

-- the least over all choices of an end of the first list and an end of the second
unfoldable pub routes : Network → List End → List End → Distance
routes net [] bs = none
routes net (a ∷ more) bs = least (least_of (map (route net a) bs)) (routes net more bs)

-- along one edge from one offset to another; none where they do not lie on one
unfoldable pub along_edge_of : Bool → ℕ → ℕ → Distance
along_edge_of same x y = cond same (metres (difference x y)) none

-- the stretch between two locations strictly inside one edge
unfoldable pub stretch : Location → Location → Distance
stretch (node v) q = none
stretch (inside i x) (node w) = none
stretch (inside i x) (inside j y) = along_edge_of (eqb i j) x y

-- 01: the distance of two places
unfoldable pub location_distance_of : Network → Location → Location → Distance
location_distance_of net p q = least (routes net (ends net p) (ends net q)) (stretch p q)

-- d is the least length over all walks between two locations: some walk is that long and none is shorter, or there is no walk and d is
-- none. Law (proofs/Laws/Location, `location-distance`): where every edge ends at nodes, `location_distance_of` is such.
abbrev pub IsLocationDistance : Network → Location → Location → Distance → Type 0
IsLocationDistance net p q d = IsLeast (LocationWalk net p q) d

-- the distance of two locations, each given by an edge and an offset; every offset, one at a node too, has a gap to both ends of its edge.
-- The counting methods use this form.
-- Law (proofs/Laws/Location, `edge-distance`): where every edge ends at nodes, it is the distance of the
-- locations at the two offsets.
unfoldable pub edge_distance : Network → ℕ → ℕ → ℕ → ℕ → Distance
edge_distance net i x j y =
    least (routes net (edge_ends net i x) (edge_ends net j y)) (along_edge_of (eqb i j) x y)

-- which end of an edge is meant; the node at that end, and the gap to it from an offset (also from one at a node)
pub data Side : Type 0 where
  at_first : Side
  at_second : Side

unfoldable pub end_node : Network → ℕ → Side → ℕ
end_node net i at_first = first net i
end_node net i at_second = second net i

unfoldable pub gap : ℕ → Side → ℕ → ℕ
gap size at_first x = x
gap size at_second x = size - x

-- whether a route reaches: the gap of the first, the node distance and the gap of the second add up to no more than t
unfoldable pub reaches : ℕ → ℕ → Distance → ℕ → Bool
reaches t a d b = within (plus (plus (metres a) d) (metres b)) t
