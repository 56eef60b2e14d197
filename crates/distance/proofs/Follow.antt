-- Following the arcs of the node just picked, one after the other.
use mathlib.Core.List.{List}
use mathlib.Core.Logic.{inl, inr}
use mathlib.Core.Path.{◌≡◌, ◌∙◌, refl, sym, subst}
use Prim.Native.Nat.{ℕ, suc, pred, ◌+◌, ◌*◌, ◌/◌, ◌≤◌, ◌<◌}
use native.Mathlib.Decide.{ℕ_discrete, dec_lt}
use native.Mathlib.Omega.{arith}
use lib.ListN.{length, get_or, set}
use lib.Seq.{get_or-set_same}
use Rattle.model.specs.Limits.{max_length}
use Rattle.model.specs.Network.{Network, IsNode, EndsAreNodes, edges, size}
use Rattle.model.specs.Walk.{Walk, onward, Joins, forward, backward}
use Rattle.distance.specs.Arcs.{tail, last_arc}
use Rattle.distance.specs.Search.{InFront, Followed, Settled, State, Status, waiting, settled, followed, Offered, entered, lowered, passed, Following}
use Rattle.distance.proofs.Lists.{AfterStore, set_cases}
use Rattle.distance.proofs.Ways.{arc-joins, last-skips}
use Rattle.distance.proofs.Offer.{not-settled, after-lowered, after-entered}

-- one arc more has been followed
one-more-arc : (net : Network) (source bound : ℕ) (dist : List ℕ) (v a : ℕ) → Settled net source bound dist v (suc a) → Followed net dist v a → Settled net source bound dist v a
one-more-arc net source bound dist v a s f = record { reached = s.reached; exact = s.exact; in_bound = s.in_bound; followed = λ b l h e. go b l h e (ℕ_discrete b a) }
  where
    go : (b : ℕ) → a ≤ b → b < edges net + edges net → tail net.firsts net.seconds b ≡ v → Dec (b ≡ a) → Followed net dist v b
    go b l h e (yes q) = subst (Followed net dist v) (sym q) f
    go b l h e (no q) = s.followed b (omega arith) h e

-- where an arc ends is a node
pub arc-end : (net : Network) → EndsAreNodes net → (a : ℕ) → a < edges net + edges net → IsNode net (tail net.seconds net.firsts a)
arc-end net ends a h = go (arc-joins net a)
  where
    go : Joins net (a / 2) (tail net.firsts net.seconds a) (tail net.seconds net.firsts a) → IsNode net (tail net.seconds net.firsts a)
    go (forward p q) = subst (IsNode net) q (ends.second_is (a / 2) (omega arith))
    go (backward p q) = subst (IsNode net) q (ends.first_is (a / 2) (omega arith))

module _ (net : Network) (ends : EndsAreNodes net) (source bound : ℕ) (dist front : List ℕ) (len picked v a : ℕ) (f : Following net source bound dist front len picked v (suc a)) (h : a < edges net + edges net) (begins : tail net.firsts net.seconds a ≡ v) (short : size net (a / 2) ≤ max_length) where
  -- the walk behind the entry offered to the arc's end
  offer-walk : (m : ℕ) → get_or dist v 0 + size net (a / 2) ≡ suc m → Walk net source (tail net.seconds net.firsts a) m
  offer-walk m e = go (pred (get_or dist v 0)) (omega (arith, f.so_far.reached))
    where
      go : (n : ℕ) → get_or dist v 0 ≡ suc n → Walk net source (tail net.seconds net.firsts a) m
      go n q =
          subst (Walk net source (tail net.seconds net.firsts a)) {y = m} (omega arith)
          (onward (a / 2) (omega arith) (f.state.walks v n q) (subst (λ (k : ℕ). Joins net (a / 2) k (tail net.seconds net.firsts a)) begins (arc-joins net a)))

  settle : (dist' front' : List ℕ) (len' : ℕ) → Following net source bound dist' front' len' picked v (suc a) → Followed net dist' v a → Following net source bound dist' front' len' picked v a
  settle dist' front' len' g x = record { state = g.state; so_far = one-more-arc net source bound dist' v a g.so_far x; next_small = g.next_small }

  -- after a store of the entry offered, the arc has been followed
  stored : (w d : ℕ) → tail net.seconds net.firsts a ≡ w → get_or dist v 0 + size net (a / 2) ≡ d → w < length dist → Followed net (set dist w d) v a
  stored w d is e room = go (set_cases dist w d v room)
    where
      there : get_or (set dist w d) (tail net.seconds net.firsts a) 0 ≡ d
      there = rw (is, get_or-set_same dist w d 0 room)

      go : AfterStore dist w d v → Followed net (set dist w d) v a
      go (inl (q, same)) = record { reached = omega (arith, there, f.so_far.reached); near = omega (arith, there, f.so_far.reached) }
      go (inr (q, same)) = record { reached = omega (arith, there, f.so_far.reached); near = omega (arith, there, f.so_far.reached) }

  -- the arc's end is offered the entry of v and the arc: a node, with room, and a walk as long
  module _ (w d : ℕ) (is : tail net.seconds net.firsts a ≡ w) (e : get_or dist v 0 + size net (a / 2) ≡ d) where
    node : IsNode net w
    node = subst (IsNode net) is (arc-end net ends a h)

    room : w < length dist
    room = omega (arith, node.to_nodes, f.state.room)

    way : (m : ℕ) → d ≡ suc m → Walk net source w m
    way m q = subst (λ (k : ℕ). Walk net source k m) is (offer-walk m (e ∙ q))

    some : d ≡ suc (pred d)
    some = omega (arith, f.so_far.reached)

    small : d ≤ suc (max_length * picked)
    small = omega (arith, f.next_small)

    -- a node whose entry would fall waits: a settled one, and v itself, have the least already
    pub falling-waits : 1 ≤ get_or dist w 0 → d < get_or dist w 0 → InFront front len w
    falling-waits reached less = go (f.state.status w reached)
      where
        no-entry : (u low : ℕ) → Settled net source bound dist u low → u ≡ w → InFront front len w
        no-entry u low x q = absurd (not-settled net source bound dist w d (inr less) room (omega (arith, some)) u (pred d) x some (way (pred d) some) q)

        go : Status net source bound dist front len v w → InFront front len w
        go (waiting x) = x
        go (settled x) = no-entry w 0 x refl
        go (followed q) = no-entry v (suc a) f.so_far (sym q)

    -- it has been offered them
    pub after-offer : {keys slots keys' slots' : List ℕ} (dist' front' : List ℕ) (len' : ℕ) → Offered dist front keys slots len w d dist' front' keys' slots' len' → Following net source bound dist' front' len' picked v a
    after-offer dist' front' len' (entered z p q _ _ r) =
        rw (p, q, r)
        (settle (set dist w d) (set front len w) (len + 1)
        (after-entered net source bound dist w d (inl z) room (omega (arith, some)) front len picked v (suc a) (pred d) f some (way (pred d) some) node small z)
        (stored w d is e room))
    after-offer dist' front' len' (lowered z l p q _ _ r) =
        rw (p, q, r)
        (settle (set dist w d) front len
        (after-lowered net source bound dist w d (inr l) room (omega (arith, some)) front len picked v (suc a) (pred d) f some (way (pred d) some) node small z)
        (stored w d is e room))
    after-offer dist' front' len' (passed z l p q _ _ r) = rw (p, q, r) (settle dist front len f (record { reached = rw is z; near = rw is (omega arith) }))

-- the entry of the node being followed is its distance, so it never changes
pub same-entry : {net : Network} {source bound : ℕ} {dist front dist' front' : List ℕ} {len picked low len' picked' low' v : ℕ} → Following net source bound dist front len picked v low → Following net source bound dist' front' len' picked' v low' → get_or dist' v 0 ≡ get_or dist v 0
same-entry {dist = dist} {dist' = dist'} {v = v} f g = go (pred (get_or dist v 0)) (pred (get_or dist' v 0)) (omega (arith, f.so_far.reached)) (omega (arith, g.so_far.reached))
  where
    go : (m n : ℕ) → get_or dist v 0 ≡ suc m → get_or dist' v 0 ≡ suc n → get_or dist' v 0 ≡ get_or dist v 0
    go m n p q = omega (arith, f.so_far.exact n (g.state.walks v n q), g.so_far.exact m (f.state.walks v m p))

-- no arc is left: the node is settled
pub all-followed : (net : Network) (source bound : ℕ) (dist front : List ℕ) (len picked v : ℕ) → Following net source bound dist front len picked v 0 → State net source bound dist front len picked 0
all-followed net source bound dist front len picked v f =
    let s = f.state in
    record {
      room = s.room;
      front_room = s.front_room;
      only_nodes = s.only_nodes;
      walks = s.walks;
      status = λ u h. go u (s.status u h);
      from_source = s.from_source;
      front_reached = s.front_reached;
      tally = s.tally;
      small = s.small;
    }
  where
    go : (u : ℕ) → Status net source bound dist front len v u → Status net source bound dist front len 0 u
    go u (waiting x) = waiting x
    go u (settled x) = settled x
    go u (followed e) = settled (subst (λ (k : ℕ). Settled net source bound dist k 0) (sym e) f.so_far)

-- the chain leads from low to the next arc of v below it
pub skip : (net : Network) (source bound : ℕ) (dist front : List ℕ) (len picked v low : ℕ) → low ≤ edges net + edges net → Following net source bound dist front len picked v low → Following net source bound dist front len picked v (last_arc net.firsts net.seconds v low)
skip net source bound dist front len picked v low small f =
    record {
      state = f.state;
      so_far = record { reached = f.so_far.reached; exact = f.so_far.exact; in_bound = f.so_far.in_bound; followed = λ a l h e. go a l h e (dec_lt a low) };
      next_small = f.next_small;
    }
  where
    go : (a : ℕ) → last_arc net.firsts net.seconds v low ≤ a → a < edges net + edges net → tail net.firsts net.seconds a ≡ v → Dec (a < low) → Followed net dist v a
    go a l h e (yes q) = absurd (last-skips net.firsts net.seconds v low a l q e)
    go a l h e (no q) = f.so_far.followed a (omega arith) h e
