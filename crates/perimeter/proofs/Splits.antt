-- The perimeter count, split into the nodes and the locations strictly inside each edge; and how far those lie from a centre.
use mathlib.Core.Bool.{Bool}
use mathlib.Core.List.{map}
use mathlib.Core.Path.{◌≡◌, refl, sym, ap, ap₂, ◌∙◌}
use Prim.Native.Nat.{ℕ, zero, suc, pred, ◌+◌, ◌-◌}
use lib.Dec.{eqb}
use Rattle.model.specs.Counting.{sum_below, count_below_of, count_if, numbers_from}
use Rattle.model.specs.Distance.{Distance, metres, least, plus, least_of}
use Rattle.model.specs.Location.{Location, node, inside, End, edge_ends, ends, route, routes, stretch, location_distance_of, along_edge_of}
use Rattle.model.specs.Network.{Network, edges, first, second, size}
use Rattle.model.specs.NodeDistance.{node_distance_of}
use Rattle.model.specs.Perimeter.{insides, locations}
use Rattle.model.proofs.Laws.Counting.{count-append, count_map, count-numbers}
use Rattle.model.proofs.Laws.Distance.{least-none, least-assoc, least-comm, plus-zero, plus_comm, plus-least}
use Rattle.perimeter.specs.Reach.{by_ends_of, inside_distance}

-- the inside locations are counted edge by edge
insides-count : (net : Network) (test : Location → Bool) (n : ℕ) → count_if test (insides net n) ≡ sum_below n (λ j. count_if (λ y. test (inside j y)) (numbers_from 1 (pred (size net j))))
unfolding insides sum_below count_if
insides-count net test zero = refl
insides-count net test (suc n) =
    count-append test (insides net n) _ ∙ ap₂ ◌+◌ (insides-count net test n) (count_map test (inside n) (numbers_from 1 (pred (size net n))))

-- the locations: the nodes, then those inside
pub locations-count : (net : Network) (test : Location → Bool) → count_if test (locations net) ≡ count_below_of net.nodes (λ k. test (node (1 + k))) + sum_below (edges net) (λ j. count_if (λ y. test (inside j y)) (numbers_from 1 (pred (size net j))))
unfolding locations
locations-count net test =
    count-append test (map node (numbers_from 1 net.nodes)) _ ∙
    ap₂ ◌+◌ (count_map test node (numbers_from 1 net.nodes) ∙ count-numbers _ 1 net.nodes) (insides-count net test (edges net))

-- from an offset of an edge to a node, by the edge's two ends
unfoldable pub to_node : Network → ℕ → ℕ → ℕ → Distance
to_node net i x v = by_ends_of x (size net i - x) (node_distance_of net (first net i) v) (node_distance_of net (second net i) v)

pub node-away : (net : Network) (i x v : ℕ) → location_distance_of net (inside i x) (node v) ≡ to_node net i x v
unfolding location_distance_of routes ends edge_ends least_of route stretch to_node by_ends_of
node-away net i x v = simp (least-none, plus-zero)

-- two choices of two, in the other order
least-exchange : (a b c d : Distance) → least (least a b) (least c d) ≡ least (least a c) (least b d)
least-exchange a b c d =
    least-assoc a b (least c d) ∙
    ap (least a) (sym (least-assoc b c d) ∙ ap (λ x. least x d) (least-comm b c) ∙ least-assoc c b d) ∙
    sym (least-assoc a c (least b d))

-- a route with the last gap first
route-turned : (net : Network) (a b : End) → route net a b ≡ plus (metres b.gap) (plus (metres a.gap) (node_distance_of net a.at b.at))
unfolding route
route-turned net a b = plus_comm _ _

-- from an offset of an edge to an offset inside an edge
pub inside-away : (net : Network) (i x j y : ℕ) → location_distance_of net (inside i x) (inside j y) ≡ inside_distance (to_node net i x (first net j)) (to_node net i x (second net j)) (size net j) (eqb i j) x y
unfolding location_distance_of routes ends edge_ends least_of route stretch to_node by_ends_of inside_distance along_edge_of
inside-away net i x j y =
    simp (least-none, plus-least, route-turned) (ap (λ d. least d (along_edge_of (eqb i j) x y)) (least-exchange _ _ _ _))
