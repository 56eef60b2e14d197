-- The node distance, computed without a search: the least length over walks whose inner nodes are numbered at most k,
-- by recursion on k; and what it means in terms of walks.
use Rattle.std.specs.Prelude.{cond, ◌&&◌, ◌||◌, ℕ, zero, suc, ◌≤◌, eqb}
use Rattle.model.specs.Network.{Network, edges, first, second, size}
use Rattle.model.specs.Distance.{Distance, metres, none, least, plus, least_below, bounded}
use Rattle.model.specs.Walk.{Walk, IsLeast}

-- the length of the edge at index i if it leads from u to v, one way or the other
unfoldable pub crossing : Network → ℕ → ℕ → ℕ → Distance
crossing net u v i =
    cond ((eqb (first net i) u && eqb (second net i) v) || (eqb (second net i) u && eqb (first net i) v))
    (metres (size net i))
    none

-- from u to v by no edge or by one
unfoldable pub direct : Network → ℕ → ℕ → Distance
direct net u v = cond (eqb u v) (metres 0) (least_below (edges net) (crossing net u v))

-- from u to v with no inner node above k
unfoldable pub through : Network → ℕ → ℕ → ℕ → Distance
through net zero u v = direct net u v
through net (suc k) u v = least (through net k u v) (plus (through net k u (suc k)) (through net k (suc k) v))

-- 01: node distance
unfoldable pub node_distance_of : Network → ℕ → ℕ → Distance
node_distance_of net u v = through net net.nodes u v

-- 01: what a bounded search gives; none is 'beyond'
unfoldable pub bounded_distance : Network → ℕ → ℕ → ℕ → Distance
bounded_distance net bound u v = bounded bound (node_distance_of net u v)

-- d is the least length over all walks from u to v: some walk is that long and none is shorter, or there is no walk and d is none.
-- Law (proofs/Laws/NodeDistance, `node-distance`): where every edge ends at nodes, `node_distance_of` is such.
abbrev pub IsNodeDistance : Network → ℕ → ℕ → Distance → Type 0
IsNodeDistance net u v d = IsLeast (Walk net u v) d

-- the same over the walks no longer than the bound. Law (`bounded-distance`): where every edge ends at nodes,
-- `bounded_distance` is such.
abbrev pub IsBoundedDistance : Network → ℕ → ℕ → ℕ → Distance → Type 0
IsBoundedDistance net bound u v d = IsLeast (λ n. Walk net u v n × (n ≤ bound)) d
