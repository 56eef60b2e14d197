-- What the code's indices rest on.
use mathlib.Core.List.{List}
use mathlib.Core.Path.{◌≡◌}
use Prim.Native.Nat.{ℕ, ◌+◌, ◌≤◌, ◌<◌}
use native.Mathlib.Omega.{arith}
use lib.ListN.{length, get_or}
use Rattle.model.specs.Limits.{max_nodes}
use Rattle.model.specs.Network.{Network, edges}
use Rattle.distance.specs.Arcs.{tail}
use Rattle.distance.specs.Search.{Ready, State}
use Rattle.distance.proofs.Offer.{few}
use Rattle.distance.proofs.Ways.{last-le}

-- a place of the front in use, and the node that waits there
pub record Slot (net : Network) (dist front : List ℕ) (k : ℕ) : Type 0 where
  pub small : k < max_nodes
  pub in-front : k < length front
  pub node-small : get_or front k 0 ≤ net.nodes
  pub reached : 1 ≤ get_or dist (get_or front k 0) 0

pub slot : {net : Network} {last next : List ℕ} {source bound : ℕ} {dist front : List ℕ} {len picked current : ℕ} → Ready net last next source dist front → State net source bound dist front len picked current → (k : ℕ) → k < len → Slot net dist front k
slot {front = front} r s k h =
    let reached = s.front_reached k h in
    let node = s.only_nodes (get_or front k 0) reached in
    record {
      small = omega (arith, few s, r.few_nodes);
      in-front = omega (arith, few s, s.front_room);
      node-small = node.to_nodes;
      reached = reached;
    }

-- the lists keep their lengths, so what the search asks still holds
pub ready-again : {net : Network} {last next : List ℕ} {source : ℕ} {dist front : List ℕ} (dist' front' : List ℕ) → Ready net last next source dist front → length dist' ≡ length dist → length front' ≡ length front → Ready net last next source dist' front'
ready-again dist' front' r p q =
    record {
      firsts_length = r.firsts_length;
      seconds_length = r.seconds_length;
      few_nodes = r.few_nodes;
      few_edges = r.few_edges;
      ends = r.ends;
      short = r.short;
      linked = r.linked;
      source_is = r.source_is;
      room = omega (arith, r.room);
      front_room = omega (arith, r.front_room);
    }

-- the chains hold small numbers
pub chain-start : {net : Network} {last next : List ℕ} {source : ℕ} {dist front : List ℕ} → Ready net last next source dist front → (v : ℕ) → v ≤ net.nodes → get_or last v 0 ≤ 2048
chain-start {net} r v h = omega (arith, r.linked.last_is v h, last-le net.firsts net.seconds v (edges net + edges net), r.few_edges)

pub chain_next : {net : Network} {last next : List ℕ} {source : ℕ} {dist front : List ℕ} → Ready net last next source dist front → (a : ℕ) → a < edges net + edges net → get_or next a 0 ≤ a
chain_next {net} r a h = omega (arith, r.linked.next_is a h, last-le net.firsts net.seconds (tail net.firsts net.seconds a) a)
