-- Routes between two offsets: the two from an end, the least of all, and what reading at an edge rests on.
use Rattle.std.specs.Prelude.{Option}
use mathlib.Core.Path.{◌≡◌, ◌∙◌, ap, subst}
use Prim.Native.Nat.{ℕ, pred, ◌-◌, ◌≤◌, ◌<◌}
use native.Mathlib.Omega.{arith}
use lib.Dec.{eqb}
use lib.ListN.{length}
use Rattle.model.proofs.Laws.Checks.{IsNetwork, LocationsAccepted, network-accepted, network-accepts}
use Rattle.model.proofs.Laws.Distance.{least-none}
use Rattle.model.proofs.Laws.Location.{edge-distance}
use Rattle.model.specs.Distance.{least, least_of}
use Rattle.model.specs.Events.{event, IsEvent}
use Rattle.model.specs.Limits.{max_length, max_nodes}
use Rattle.model.specs.Location.{End, end, edge_ends, route, routes, edge_distance, location_of, location_distance_of, along_edge_of}
use Rattle.model.specs.Network.{Network, IsNode, first, second, size}
use Rattle.between.specs.Answers.{metres_of}
use Rattle.between.specs.Routes.{from_end_of, OnEdge}

-- from an end there are two routes
pub from-end-is : {r : Option ℕ} (net : Network) (a : End) (j y : ℕ) → r ≡ metres_of (least (route net a (end (first net j) y)) (route net a (end (second net j) (size net j - y)))) → r ≡ metres_of (from_end_of net a j y)
unfolding from_end_of edge_ends least_of
from-end-is net a j y e = rw least-none e

-- the least of all
pub edge-is : {r : Option ℕ} (net : Network) (i x j y : ℕ) → r ≡ metres_of (least (least (from_end_of net (end (first net i) x) j y) (from_end_of net (end (second net i) (size net i - x)) j y)) (along_edge_of (eqb i j) x y)) → r ≡ metres_of (edge_distance net i x j y)
unfolding edge_distance from_end_of routes edge_ends
edge-is net i x j y e = rw (least-none (least_of _)) e

-- what the code's reads at an edge rest on
pub record AtEdge (net : Network) (i x : ℕ) : Type 0 where
  pub is-network : IsNetwork net
  pub in-firsts : i < length net.firsts
  pub in-seconds : i < length net.seconds
  pub few_nodes : net.nodes ≤ max_nodes
  pub first_is : IsNode net (first net i)
  pub second_is : IsNode net (second net i)
  pub first-gap : x ≤ max_length
  pub second-gap : size net i - x ≤ max_length

pub at_edge : {net : Network} {i x : ℕ} → OnEdge net i x → AtEdge net i x
at_edge {net} {i} {x} o =
    let n = network-accepted net o.accepted in
    record {
      is-network = n;
      in-firsts = omega (arith, o.is_edge, n.firsts_length);
      in-seconds = omega (arith, o.is_edge, n.seconds_length);
      few_nodes = n.nodes_to;
      first_is = n.ends.first_is i o.is_edge;
      second_is = n.ends.second_is i o.is_edge;
      first-gap = omega (arith, o.not_beyond, n.length_to i o.is_edge);
      second-gap = omega (arith, n.length_to i o.is_edge);
    }

-- an accepted edge number and offset, by the edge's index
pub on_edge : {net : Network} (e x : ℕ) → IsNetwork net → IsEvent net (event e x) → OnEdge net (e - 1) x
on_edge {net} e x n v =
    record {
      accepted = network-accepts net n;
      is_edge = omega (arith, v.from_one, v.to_edges);
      not_beyond = subst (λ (i : ℕ). x ≤ size net i) (omega arith) v.on_edge;
    }

-- the least of all routes is the distance of the locations
pub located : {net : Network} {e x f y : ℕ} → LocationsAccepted net e x f y → edge_distance net (e - 1) x (f - 1) y ≡ location_distance_of net (location_of net (pred e) x) (location_of net (pred f) y)
located {net} {e} {x} {f} {y} a =
    let first = on_edge e x a.is-network a.first-location in
    let second = on_edge f y a.is-network a.second-location in
    edge-distance net a.is-network.ends (e - 1) x (f - 1) y first.is_edge second.is_edge first.not_beyond second.not_beyond
    ∙ ap (λ (i : ℕ). location_distance_of net (location_of net i x) (location_of net (f - 1) y)) {y = pred e} (omega arith)
    ∙ ap (λ (j : ℕ). location_distance_of net (location_of net (pred e) x) (location_of net j y)) {y = pred f} (omega arith)
