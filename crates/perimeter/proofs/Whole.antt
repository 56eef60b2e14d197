-- The counts over the nodes and the edges, made from two bounded rows, are together the perimeter count.
use mathlib.Core.List.{List}
use mathlib.Core.Path.{◌≡◌, refl, sym, ap, ap₂, ◌∙◌}
use Prim.Native.Nat.{ℕ, pred, ◌+◌, ◌-◌, ◌≤◌, ◌<◌}
use native.Mathlib.Omega.{arith}
use lib.Dec.{eqb}
use lib.ListN.{length, get_or}
use Rattle.model.proofs.Laws.Codes.{decode-code}
use Rattle.model.specs.Counting.{sum_below, numbers_from}
use Rattle.model.specs.Distance.{exactly, bounded, decode}
use Rattle.model.specs.Location.{node, inside, location_of, location_distance_of}
use Rattle.model.specs.Network.{Network, IsNode, EndsAreNodes, edges, first, second, size}
use Rattle.model.specs.NodeDistance.{node_distance_of, bounded_distance}
use Rattle.model.specs.Perimeter.{locations, perimeter_count_of}
use Rattle.model.proofs.Laws.Checks.{IsNetwork}
use Rattle.model.proofs.Laws.Counting.{count-cong, sum-below-cong, count-below-cong}
use Rattle.model.proofs.Laws.Location.{from-inside}
use Rattle.perimeter.specs.Counts.{reached, nodes_at, edge_at, Near, Standing, Prepared, IsRow}
use Rattle.perimeter.specs.Reach.{inside_distance, insides_at}
use Rattle.perimeter.specs.declared.counts.Centre.{Centre}
use Rattle.perimeter.proofs.Alike.{Alike, alike-bounded, alike-least, alike-by-ends, alike-exactly}
use Rattle.perimeter.proofs.Splits.{locations-count, to_node, node-away, inside-away}

-- the centre at an offset of the edge at an index
abbrev pub centre_at : Network → ℕ → ℕ → ℕ → Centre
centre_at net i x radius = record { edge = i; offset = x; rest = size net i - x; radius = radius }

module _ (net : Network) (nodes : EndsAreNodes net) (i x radius : ℕ) (row1 row2 : List ℕ) (is1 : IsRow net radius (first net i) row1) (is2 : IsRow net radius (second net i) row2) where
  -- an entry stands for a distance that is alike
  alike-entry : {source : ℕ} {row : List ℕ} → IsRow net radius source row → (k : ℕ) → k < net.nodes → Alike radius (decode (get_or row k 0)) (node_distance_of net source (1 + k))
  unfolding bounded_distance
  alike-entry {source} r k l = ap (bounded radius) (ap decode (r.entry k l) ∙ decode-code _) ∙ alike-bounded radius (node_distance_of net source (1 + k))

  -- what is reached by the rows is alike to the distance from the offset
  alike-node : (k : ℕ) → k < net.nodes → Alike radius (reached (centre_at net i x radius) row1 row2 k) (to_node net i x (1 + k))
  unfolding reached to_node
  alike-node k l = alike-by-ends radius x (size net i - x) _ _ _ _ (alike-entry is1 k l) (alike-entry is2 k l)

  -- the same with a node's number
  alike_end : (v : ℕ) → IsNode net v → Alike radius (reached (centre_at net i x radius) row1 row2 (v - 1)) (to_node net i x v)
  alike_end v h =
      alike-node (v - 1) (omega arith) ∙ ap (λ u. bounded radius (to_node net i x u)) {x = 1 + (v - 1)} {y = v} (omega arith)

  -- the nodes
  node-same : (k : ℕ) → k < net.nodes → exactly (reached (centre_at net i x radius) row1 row2 k) radius ≡ exactly (location_distance_of net (inside i x) (node (1 + k))) radius
  node-same k l = alike-exactly radius _ _ (alike-node k l ∙ ap (bounded radius) (sym (node-away net i x (1 + k))))

  -- an offset inside an edge
  inside-same : (j y : ℕ) → j < edges net → exactly (inside_distance (reached (centre_at net i x radius) row1 row2 (first net j - 1)) (reached (centre_at net i x radius) row1 row2 (second net j - 1)) (size net j) (eqb i j) x y) radius ≡ exactly (location_distance_of net (inside i x) (inside j y)) radius
  unfolding inside_distance
  inside-same j y l =
      alike-exactly radius _ _
      (alike-least radius _ _ _ _ (alike-by-ends radius y (size net j - y) _ _ _ _ (alike_end _ (nodes.first_is j l)) (alike_end _ (nodes.second_is j l))) refl ∙
      ap (bounded radius) (sym (inside-away net i x j y)))

  -- the count from the rows is the perimeter count
  pub whole-count : i < edges net → x ≤ size net i → nodes_at (centre_at net i x radius) row1 row2 net.nodes + sum_below (edges net) (edge_at (centre_at net i x radius) net.firsts net.seconds net.lengths row1 row2) ≡ perimeter_count_of net (location_of net i x) radius
  unfolding nodes_at edge_at insides_at perimeter_count_of
  whole-count h k =
      ap₂ ◌+◌
      (count-below-cong net.nodes _ _ node-same)
      (sum-below-cong (edges net) _ _ (λ j l. count-cong _ _ (numbers_from 1 (pred (size net j))) (λ y. inside-same j y l))) ∙
      sym (locations-count net (λ q. exactly (location_distance_of net (inside i x) q) radius)) ∙
      count-cong _ _ (locations net) (λ q. ap (λ d. exactly d radius) (sym (from-inside net nodes i x h k q)))

-- an accepted network with rows for all its nodes is prepared for the counts
pub prepared : {net : Network} → IsNetwork net → (c : Centre) → Near c → (row1 row2 : List ℕ) → net.nodes ≤ length row1 → net.nodes ≤ length row2 → Prepared c net.firsts net.seconds net.lengths row1 row2
prepared {net} is c near row1 row2 room1 room2 =
    record {
      near = near;
      firsts_length = is.firsts_length;
      seconds_length = is.seconds_length;
      few_edges = is.edges-to;
      first_stands = λ j l. stands _ (is.ends.first_is j l);
      second_stands = λ j l. stands _ (is.ends.second_is j l);
    }
  where
    stands : (v : ℕ) → IsNode net v → Standing row1 row2 v
    stands v h = record { from_one = h.from_one; in_first = omega arith; in_second = omega arith }
