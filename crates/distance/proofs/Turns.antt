-- What the search keeps between two picks, and what a pick does to it.
use mathlib.Core.List.{List}
use mathlib.Core.Path.{◌≡◌, refl}
use Prim.Native.Nat.{ℕ, suc, ◌+◌, ◌/◌, ◌%◌, ◌≤◌, ◌<◌}
use native.Mathlib.Omega.{arith}
use lib.ListN.{length, get_or, set, length-set}
use Rattle.model.specs.Limits.{max_nodes}
use Rattle.model.specs.Network.{Network, edges}
use Rattle.distance.specs.Keys.{key_of, Least, Keyed, Removed}
use Rattle.distance.specs.Search.{Ready, State, Following}
use Rattle.distance.proofs.Keyed.{start-keyed, removed-keyed}
use Rattle.distance.proofs.Least.{Nearest, least-is-nearest}
use Rattle.distance.proofs.Offer.{few}
use Rattle.distance.proofs.Picks.{start, pick}
use Rattle.distance.proofs.Slots.{Slot, slot, ready-again}

pub record Turn (net : Network) (last next : List ℕ) (source bound : ℕ) (dist front keys slots : List ℕ) (len picked : ℕ) : Type 0 where
  pub ready : Ready net last next source dist front
  pub state : State net source bound dist front len picked 0
  pub keyed : Keyed net.nodes dist front keys slots len

-- the source waits at the first place
pub turn-start : {net : Network} {last next : List ℕ} {source : ℕ} {dist front : List ℕ} (bound : ℕ) (dist' keys slots : List ℕ) (key : ℕ) → Ready net last next source dist front → max_nodes ≤ length keys → max_nodes < length slots → length dist' ≡ length dist → ((k : ℕ) → get_or dist' k 0 ≡ 0) → key ≡ key_of 1 0 → Turn net last next source bound (set dist' source 1) (set front 0 source) (set keys 0 key) (set slots source 0) 1 0
turn-start {net} {source = source} {front = front} bound dist' keys slots key r keys_room slots_room same clear is =
    let room : net.nodes < length dist' = omega (arith, r.room) in
    record {
      ready = ready-again (set dist' source 1) (set front 0 source) r (simp length-set same) (simp length-set);
      state = start net source bound dist' front r.source_is room r.front_room clear;
      keyed = rw is (start-keyed dist' front keys slots source (omega (arith, r.few_nodes)) (omega (arith, r.few_nodes)) (omega (arith, r.source_is.to_nodes)) (omega (arith, r.source_is.to_nodes, r.few_nodes)) (omega (arith, r.source_is.from_one, r.source_is.to_nodes, r.front_room)) (omega arith));
    }

module _ {net : Network} {last next : List ℕ} {source bound : ℕ} {dist front keys slots : List ℕ} {len picked : ℕ} (t : Turn net last next source bound dist front keys slots len picked) where
  pub all-few : len + picked ≤ max_nodes
  all-few = omega (arith, few t.state, t.ready.few_nodes)

  pub keys-fit : len ≤ length keys
  keys-fit = omega (arith, few t.state, t.keyed.keys_room)

  pub waits : (k : ℕ) → k < len → Slot net dist front k
  waits = slot t.ready t.state

  last-slot : (l : ℕ) → l < len → get_or front l 0 < length slots
  last-slot l h = omega (arith, (waits l h).node-small, t.keyed.slots_room)

  pub turn-nearest : {key place entry : ℕ} → Least keys len 0 len key → place ≡ key % 4294967296 → entry ≡ key / 4294967296 → Nearest dist front len place entry
  turn-nearest x p e = least-is-nearest t.keyed x (omega (arith, all-few)) p e

  module _ {place entry : ℕ} (x : Nearest dist front len place entry) where
    pub nearest-reached : 1 ≤ entry
    nearest-reached = omega (arith, (waits place x.inside).reached, x.is)

    -- it can be taken out of the front, where l is the last place
    pub removable : (l : ℕ) → len ≡ suc l → ((place ≤ l) × (l < length front) × (l < length keys) × (l < max_nodes)) × ((get_or front l 0 < length slots) × (l ≤ get_or keys l 0))
    removable l is =
        let h : l < len = omega arith in
        ((omega (arith, x.inside), (waits l h).in-front, omega (arith, keys-fit), (waits l h).small), (last-slot l h, omega (arith, t.keyed.key_at l h)))

  module _ {place entry l : ℕ} {front' keys' slots' : List ℕ} (x : Nearest dist front len place entry) (is : len ≡ suc l) (m : Removed front keys slots l place front' keys' slots') where
    pub turn-ready : Ready net last next source dist front'
    turn-ready = rw m.front_is (ready-again dist (set front place (get_or front l 0)) t.ready refl (simp length-set))

    -- the nearest is picked
    pub turn-pick : entry ≤ suc bound → Following net source bound dist front' l (picked + 1) (get_or front place 0) (edges net + edges net)
    turn-pick near = rw m.front_is (pick net source bound dist front len l picked place t.state is x.inside (λ j h. omega (arith, x.nearest j h, x.is)) (omega (arith, x.is)))

    pub turn-keyed : Keyed net.nodes dist front' keys' slots' l
    turn-keyed = removed-keyed t.keyed l place m is x.inside (omega (arith, few t.state, t.state.front_room)) keys-fit (last-slot l (omega arith))
