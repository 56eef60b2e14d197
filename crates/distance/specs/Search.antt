-- What the search keeps while it runs. Entries are codes: 0 where no walk has been found, else one more than its length.
use Rattle.model.specs.Refusal.{accepted}
use Rattle.std.specs.Prelude.{List, ◌≡◌, ℕ, suc, ◌+◌, ◌*◌, ◌/◌, ◌<◌, ◌≤◌, leb, length, get_or, set}
use Rattle.model.specs.Checks.{network_check}
use Rattle.model.specs.Counting.{count_below_of}
use Rattle.model.specs.Distance.{code}
use Rattle.model.specs.Limits.{max_length, max_nodes, max_edges}
use Rattle.model.specs.Network.{Network, IsNode, EndsAreNodes, edges, size}
use Rattle.model.specs.NodeDistance.{node_distance_of, bounded_distance}
use Rattle.model.specs.Walk.{Walk}
use Rattle.distance.specs.Arcs.{tail, Linked}
use Rattle.distance.specs.Keys.{key_of}

-- v is among the first len nodes of the front
pub data InFront (front : List ℕ) (len v : ℕ) : Type 0 where
  at : (k : ℕ) → k < len → get_or front k 0 ≡ v → InFront front len v

-- arc a of v has been followed: its end has been reached, at no more than v's entry and the arc
pub record Followed (net : Network) (dist : List ℕ) (v a : ℕ) : Type 0 where
  pub reached : 1 ≤ get_or dist (tail net.seconds net.firsts a) 0
  pub near : get_or dist (tail net.seconds net.firsts a) 0 ≤ get_or dist v 0 + size net (a / 2)

-- v's entry is its node distance, within the bound, and every arc of v from number low on has been followed
pub record Settled (net : Network) (source bound : ℕ) (dist : List ℕ) (v low : ℕ) : Type 0 where
  pub reached : 1 ≤ get_or dist v 0
  pub exact : (n : ℕ) → Walk net source v n → get_or dist v 0 ≤ suc n
  pub in_bound : get_or dist v 0 ≤ suc bound
  pub followed : (a : ℕ) → low ≤ a → a < edges net + edges net → tail net.firsts net.seconds a ≡ v → Followed net dist v a

-- a node that has been reached is in the front, is settled, or is the one being followed
pub data Status (net : Network) (source bound : ℕ) (dist front : List ℕ) (len current v : ℕ) : Type 0 where
  waiting : InFront front len v → Status net source bound dist front len current v
  settled : Settled net source bound dist v 0 → Status net source bound dist front len current v
  followed : v ≡ current → Status net source bound dist front len current v

-- the state of the search; current is the node whose arcs are being followed, 0 between two picks; picked counts the picks
pub record State (net : Network) (source bound : ℕ) (dist front : List ℕ) (len picked current : ℕ) : Type 0 where
  pub room : net.nodes < length dist
  pub front_room : net.nodes ≤ length front
  pub only_nodes : (v : ℕ) → 1 ≤ get_or dist v 0 → IsNode net v
  pub walks : (v n : ℕ) → get_or dist v 0 ≡ suc n → Walk net source v n
  pub status : (v : ℕ) → 1 ≤ get_or dist v 0 → Status net source bound dist front len current v
  pub from_source : get_or dist source 0 ≡ 1
  pub front_reached : (k : ℕ) → k < len → 1 ≤ get_or dist (get_or front k 0) 0
  pub tally : len + picked ≡ count_below_of net.nodes (λ k. leb 1 (get_or dist (suc k) 0))
  pub small : (v : ℕ) → get_or dist v 0 ≤ suc (max_length * picked)

-- what offering node w the entry d asks: room for a node not reached yet, and a key in the slot of one whose entry falls
pub record Offerable (dist front keys slots : List ℕ) (len w d : ℕ) : Type 0 where
  pub in_dist : w < length dist
  pub in_slots : w < length slots
  pub few : len < 4294967296
  pub room : get_or dist w 0 ≡ 0 → (len < length front) × (len < length keys)
  pub slot : 1 ≤ get_or dist w 0 → d < get_or dist w 0 → get_or slots w 0 < length keys

-- what it does to the entries, the front, the keys and the slots
pub data Offered (dist front keys slots : List ℕ) (len w d : ℕ) (dist' front' keys' slots' : List ℕ) (len' : ℕ) : Type 0 where
  entered : get_or dist w 0 ≡ 0 → dist' ≡ set dist w d → front' ≡ set front len w → keys' ≡ set keys len (key_of d len) → slots' ≡ set slots w len → len' ≡ len + 1 → Offered dist front keys slots len w d dist' front' keys' slots' len'
  lowered : 1 ≤ get_or dist w 0 → d < get_or dist w 0 → dist' ≡ set dist w d → front' ≡ front → keys' ≡ set keys (get_or slots w 0) (key_of d (get_or slots w 0)) → slots' ≡ slots → len' ≡ len → Offered dist front keys slots len w d dist' front' keys' slots' len'
  passed : 1 ≤ get_or dist w 0 → get_or dist w 0 ≤ d → dist' ≡ dist → front' ≡ front → keys' ≡ keys → slots' ≡ slots → len' ≡ len → Offered dist front keys slots len w d dist' front' keys' slots' len'

-- a node whose arcs from number low on have been followed, beside the state
pub record Following (net : Network) (source bound : ℕ) (dist front : List ℕ) (len picked v low : ℕ) : Type 0 where
  pub state : State net source bound dist front len picked v
  pub so_far : Settled net source bound dist v low
  pub next_small : get_or dist v 0 + max_length ≤ suc (max_length * picked)

-- what the search asks: a network within the limits, its arcs linked, a source and room
pub record Ready (net : Network) (last next : List ℕ) (source : ℕ) (dist front : List ℕ) : Type 0 where
  pub firsts_length : length net.firsts ≡ edges net
  pub seconds_length : length net.seconds ≡ edges net
  pub few_nodes : net.nodes ≤ max_nodes
  pub few_edges : edges net ≤ max_edges
  pub ends : EndsAreNodes net
  pub short : (i : ℕ) → i < edges net → size net i ≤ max_length
  pub linked : Linked net.firsts net.seconds last next net.nodes (edges net + edges net)
  pub source_is : IsNode net source
  pub room : net.nodes < length dist
  pub front_room : net.nodes ≤ length front

-- entries above the bound are 0 afterwards, the others are kept
pub record Clipped (bound before after : ℕ) : Type 0 where
  pub near : before ≤ suc bound → after ≡ before
  pub far : suc bound < before → after ≡ 0

-- room for the chains of arcs and the front of any network
pub record Rooms (last next front : List ℕ) : Type 0 where
  pub last_room : max_nodes < length last
  pub next_room : max_edges + max_edges ≤ length next
  pub front_room : max_nodes ≤ length front

-- what a search with its arcs not yet linked asks: an accepted network, a source and room for the entries
pub record Askable (net : Network) (source : ℕ) (dist : List ℕ) : Type 0 where
  pub accepted : network_check net ≡ accepted
  pub source_is : IsNode net source
  pub room : net.nodes < length dist

-- what a search leaves as a node's entry: the code of the bounded distance; a bound that no walk worth taking passes cuts nothing off
pub record Found (net : Network) (source bound v entry : ℕ) : Type 0 where
  pub bounded : entry ≡ code (bounded_distance net bound source v)
  pub whole : max_length * max_nodes ≤ bound → entry ≡ code (node_distance_of net source v)
  pub small : entry ≤ suc (max_length * max_nodes)

-- the same of every node
pub record Searched (net : Network) (source bound : ℕ) (dist : List ℕ) : Type 0 where
  pub at : (v : ℕ) → Found net source bound v (get_or dist v 0)
