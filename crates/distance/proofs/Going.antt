-- What the loop over the arcs of one node keeps.
use mathlib.Core.List.{List}
use mathlib.Core.Path.{◌≡◌, ◌∙◌, ap, subst}
use Prim.Native.Nat.{ℕ, suc, ◌+◌, ◌-◌, ◌*◌, ◌/◌, ◌≤◌, ◌<◌}
use native.Mathlib.Omega.{arith}
use lib.ListN.{length, get_or}
use Rattle.model.specs.Limits.{max_nodes, max_length}
use Rattle.model.specs.Network.{Network, IsNode, edges, size}
use Rattle.distance.specs.Arcs.{tail, last_arc}
use Rattle.distance.specs.Keys.{Keyed}
use Rattle.distance.specs.Search.{InFront, at, Ready, State, Following, Offerable, Offered, entered, lowered, passed}
use Rattle.distance.proofs.Follow.{arc-end, falling-waits, after-offer, all-followed, same-entry, skip}
use Rattle.distance.proofs.Keyed.{entered-keyed, lowered-keyed}
use Rattle.distance.proofs.Offer.{few, not-all-wait}
use Rattle.distance.proofs.Slots.{ready-again, chain-start, chain_next}
use Rattle.distance.proofs.Ways.{last-le, last-fixed, last-leads}

-- the arcs of v from number h on have been followed, and its chain leads to h
pub record Going (net : Network) (last next : List ℕ) (source bound : ℕ) (dist front keys slots : List ℕ) (len picked v least h : ℕ) : Type 0 where
  pub ready : Ready net last next source dist front
  pub following : Following net source bound dist front len picked v h
  pub keyed : Keyed net.nodes dist front keys slots len
  pub entry : get_or dist v 0 ≡ least
  pub leads : last_arc net.firsts net.seconds v h ≡ h
  pub in-arcs : h ≤ edges net + edges net

-- no arc has been followed
pub going_start : {net : Network} {last next : List ℕ} {source bound : ℕ} {dist front keys slots : List ℕ} {len picked v least : ℕ} → Ready net last next source dist front → Following net source bound dist front len picked v (edges net + edges net) → Keyed net.nodes dist front keys slots len → get_or dist v 0 ≡ least → Going net last next source bound dist front keys slots len picked v least (get_or last v 0)
going_start {net} {last} {next} {source} {bound} {dist} {front} {keys} {slots} {len} {picked} {v} r f q e =
    record {
      ready = r;
      following = rw is (skip net source bound dist front len picked v (edges net + edges net) (omega arith) f);
      keyed = q;
      entry = e;
      leads = rw is (last-fixed net.firsts net.seconds v (edges net + edges net));
      in-arcs = rw is (last-le net.firsts net.seconds v (edges net + edges net));
    }
  where
    is : get_or last v 0 ≡ last_arc net.firsts net.seconds v (edges net + edges net)
    is = r.linked.last_is v (f.state.only_nodes v f.so_far.reached).to_nodes

-- all have been
pub going_done : {net : Network} {last next : List ℕ} {source bound : ℕ} {dist front keys slots : List ℕ} {len picked v least h : ℕ} → Going net last next source bound dist front keys slots len picked v least h → h ≡ 0 → State net source bound dist front len picked 0
going_done {net} {source = source} {bound} {dist} {front} {len = len} {picked} {v} g e = all-followed net source bound dist front len picked v (subst (Following net source bound dist front len picked v) e g.following)

-- what the first index of the chain rests on
pub record Begun (last : List ℕ) (v : ℕ) : Type 0 where
  pub node-small : v ≤ max_nodes
  pub in-last : v < length last
  pub last-small : get_or last v 0 ≤ 2048

pub begun : {net : Network} {last next : List ℕ} {source bound : ℕ} {dist front : List ℕ} {len picked v low : ℕ} → Ready net last next source dist front → Following net source bound dist front len picked v low → Begun last v
begun {v = v} r f =
    let node = (f.state.only_nodes v f.so_far.reached).to_nodes in
    record { node-small = omega (arith, r.few_nodes); in-last = omega (arith, r.linked.last_length); last-small = chain-start r v node }

-- where the chain has not ended it leads to an arc
pub an-arc : {h : ℕ} → (h ≡ 0 → ⊥) → h ≡ suc (h - 1)
an-arc some = omega arith

-- an arc's index, its edge's, the next index, and the sum that is offered to the arc's end
pub record Reach (net : Network) (next : List ℕ) (least a : ℕ) : Type 0 where
  pub small : a < 2048
  pub in-next : a < length next
  pub next_small : get_or next a 0 ≤ a
  pub in-lengths : a / 2 < length net.lengths
  pub in-firsts : a / 2 < length net.firsts
  pub in-seconds : a / 2 < length net.seconds
  pub sum-small : least + size net (a / 2) ≤ suc (max_length * max_nodes)

pub reach : {net : Network} {last next : List ℕ} {source bound : ℕ} {dist front keys slots : List ℕ} {len picked v least h : ℕ} → Going net last next source bound dist front keys slots len picked v least h → (a : ℕ) → h ≡ suc a → Reach net next least a
reach {net} {v = v} {h = h} g a is-arc =
    let r = g.ready in
    let in-arcs : a < edges net + edges net = omega (arith, g.in-arcs) in
    record {
      small = omega (arith, r.few_edges);
      in-next = omega (arith, r.linked.next_length);
      next_small = chain_next r a in-arcs;
      in-lengths = omega arith;
      in-firsts = omega (arith, r.firsts_length);
      in-seconds = omega (arith, r.seconds_length);
      sum-small = omega (arith, g.entry, g.following.next_small, few g.following.state, r.few_nodes, r.short (a / 2) (omega arith));
    }

module _ {net : Network} {last next : List ℕ} {source bound : ℕ} {dist front keys slots : List ℕ} {len picked v least h : ℕ} (g : Going net last next source bound dist front keys slots len picked v least h) (a w : ℕ) (is-arc : h ≡ suc a) (is : tail net.seconds net.firsts a ≡ w) where
  small : a < edges net + edges net
  small = omega (arith, g.in-arcs)

  begins : tail net.firsts net.seconds a ≡ v
  begins = last-leads net.firsts net.seconds v h a (g.leads ∙ is-arc)

  short : size net (a / 2) ≤ max_length
  short = g.ready.short (a / 2) (omega (arith, small))

  from-arc : Following net source bound dist front len picked v (suc a)
  from-arc = subst (Following net source bound dist front len picked v) is-arc g.following

  node : IsNode net w
  node = subst (IsNode net) is (arc-end net g.ready.ends a small)

  sum : get_or dist v 0 + size net (a / 2) ≡ least + size net (a / 2)
  sum = ap (λ (x : ℕ). x + size net (a / 2)) g.entry

  falls : 1 ≤ get_or dist w 0 → least + size net (a / 2) < get_or dist w 0 → InFront front len w
  falls = falling-waits net g.ready.ends source bound dist front len picked v a from-arc small begins short w (least + size net (a / 2)) is sum

  waiting-fit : len ≤ length keys
  waiting-fit = omega (arith, few g.following.state, g.keyed.keys_room)

  -- the arc's end can be offered the entry and the arc
  pub offerable : Offerable dist front keys slots len w (least + size net (a / 2))
  offerable =
      record {
        in_dist = omega (arith, node.to_nodes, g.ready.room);
        in_slots = omega (arith, node.to_nodes, g.keyed.slots_room);
        few = omega (arith, few g.following.state, g.ready.few_nodes);
        room = λ none. let less = not-all-wait w g.following.state node none in (omega (arith, g.ready.front_room), omega (arith, g.keyed.keys_room));
        slot = λ reached less. slot (falls reached less);
      }
    where
      slot : InFront front len w → get_or slots w 0 < length keys
      slot (at k k-in e) = omega (arith, waiting-fit, ap (λ (u : ℕ). get_or slots u 0) e, g.keyed.slot_at k k-in)

  module _ {dist' front' keys' slots' : List ℕ} {len' : ℕ} where
    keyed-offer : Offered dist front keys slots len w (least + size net (a / 2)) dist' front' keys' slots' len' → Keyed net.nodes dist' front' keys' slots' len'
    keyed-offer (entered z p q r s t) =
        let room = offerable.room z in
        rw (p, q, r, s, t) (entered-keyed g.keyed w (least + size net (a / 2)) g.following.state.front_reached z offerable.in_dist offerable.in_slots room.0 room.1)
    keyed-offer (lowered z l p q r s t) = rw (p, q, r, s, t) (lowered-keyed g.keyed w (least + size net (a / 2)) (falls z l) offerable.in_dist waiting-fit)
    keyed-offer (passed z l p q r s t) = rw (p, q, r, s, t) g.keyed

    -- it has been offered them, and the chain leads on
    pub going_more : Offered dist front keys slots len w (least + size net (a / 2)) dist' front' keys' slots' len' → length dist' ≡ length dist → length front' ≡ length front → Going net last next source bound dist' front' keys' slots' len' picked v least (get_or next a 0)
    going_more o same-dist same-front =
        record {
          ready = ready-again dist' front' g.ready same-dist same-front;
          following = rw leads-to (skip net source bound dist' front' len' picked v a (omega (arith, small)) after);
          keyed = keyed-offer o;
          entry = same-entry from-arc after ∙ g.entry;
          leads = rw leads-to (last-fixed net.firsts net.seconds v a);
          in-arcs = rw leads-to (omega (arith, small, last-le net.firsts net.seconds v a));
        }
      where
        after : Following net source bound dist' front' len' picked v a
        after = after-offer net g.ready.ends source bound dist front len picked v a from-arc small begins short w (least + size net (a / 2)) is sum dist' front' len' o

        leads-to : get_or next a 0 ≡ last_arc net.firsts net.seconds v a
        leads-to = g.ready.linked.next_is a small ∙ ap (λ (u : ℕ). last_arc net.firsts net.seconds u a) begins
