-- From an accepted network and room to what linking and searching ask.
use mathlib.Core.List.{List}
use mathlib.Core.Path.{◌≡◌, subst}
use Prim.Native.Nat.{ℕ, ◌+◌, ◌/◌, ◌≤◌, ◌<◌}
use native.Mathlib.Omega.{arith}
use lib.ListN.{length}
use Rattle.model.proofs.Laws.Checks.{IsNetwork, network-accepted, network-accepts}
use Rattle.model.specs.Limits.{max_nodes, max_edges}
use Rattle.model.specs.Network.{Network, IsNode, EndsAreNodes, edges}
use Rattle.model.specs.Walk.{Joins, forward, backward}
use Rattle.distance.specs.Arcs.{tail, Linked}
use Rattle.distance.specs.Search.{Ready, Rooms, Askable}
use Rattle.distance.proofs.Ways.{arc-joins}

-- where an arc begins is a node
arc-begin : (net : Network) → EndsAreNodes net → (a : ℕ) → a < edges net + edges net → IsNode net (tail net.firsts net.seconds a)
arc-begin net ends a h = go (arc-joins net a)
  where
    go : Joins net (a / 2) (tail net.firsts net.seconds a) (tail net.seconds net.firsts a) → IsNode net (tail net.firsts net.seconds a)
    go (forward p q) = subst (IsNode net) p (ends.first_is (a / 2) (omega arith))
    go (backward p q) = subst (IsNode net) p (ends.second_is (a / 2) (omega arith))

module _ {net : Network} (n : IsNetwork net) where
  -- what linking asks: few arcs, room for the chains, and every arc begins at a node
  pub can-link : {last next front : List ℕ} → Rooms last next front → ((length net.firsts ≤ max_edges) × (length net.seconds ≡ length net.firsts)) × (((net.nodes < length last) × (length net.firsts + length net.firsts ≤ length next)) × ((a : ℕ) → a < length net.firsts + length net.firsts → tail net.firsts net.seconds a ≤ net.nodes))
  can-link rooms = (
    (omega (arith, n.firsts_length, n.edges-to), omega (arith, n.firsts_length, n.seconds_length)),
    (
      (omega (arith, n.nodes_to, rooms.last_room), omega (arith, n.firsts_length, n.edges-to, rooms.next_room)),
      λ a h. (arc-begin net n.ends a (omega (arith, n.firsts_length))).to_nodes,
    ),
  )

  -- with the arcs linked the search can start
  pub ready : {source : ℕ} {last next dist front : List ℕ} → IsNode net source → net.nodes < length dist → net.nodes ≤ length front → Linked net.firsts net.seconds last next net.nodes (length net.firsts + length net.firsts) → Ready net last next source dist front
  ready {last = last} {next = next} node room front_room linked =
      record {
        firsts_length = n.firsts_length;
        seconds_length = n.seconds_length;
        few_nodes = n.nodes_to;
        few_edges = n.edges-to;
        ends = n.ends;
        short = n.length_to;
        linked = subst (λ (k : ℕ). Linked net.firsts net.seconds last next net.nodes (k + k)) n.firsts_length linked;
        source_is = node;
        room = room;
        front_room = front_room;
      }

-- the network behind a search
pub asked : {net : Network} {source : ℕ} {dist : List ℕ} → Askable net source dist → IsNetwork net
asked {net} q = network-accepted net q.accepted

-- room for the entries of any network
pub askable : {net : Network} {source : ℕ} {dist : List ℕ} → IsNetwork net → IsNode net source → max_nodes < length dist → Askable net source dist
askable {net} n node room = record { accepted = network-accepts net n; source_is = node; room = omega (arith, n.nodes_to) }
