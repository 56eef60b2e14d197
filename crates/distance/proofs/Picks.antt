-- The search between two picks: how it starts, and what a pick does.
use mathlib.Core.Bool.{false}
use mathlib.Core.List.{List}
use mathlib.Core.Logic.{◌⊎◌, inl, inr, ◌≢◌}
use mathlib.Core.Path.{◌≡◌, ◌∙◌, sym, ap, subst}
use Prim.Native.Nat.{ℕ, suc, pred, ◌+◌, ◌*◌, ◌≤◌, ◌<◌}
use native.Mathlib.Decide.{ℕ_discrete}
use native.Mathlib.Omega.{arith}
use borrow.Author.Tests.{le-leb, lt-leb}
use lib.Dec.{leb}
use lib.ListN.{length, get_or, set, length-set}
use lib.Seq.{get_or-set_same, get_or-set_other}
use Rattle.model.proofs.Laws.Counting.{sum-below-zero}
use Rattle.model.specs.Counting.{count_below_of, one_if}
use Rattle.model.specs.Limits.{max_length}
use Rattle.model.specs.Network.{Network, IsNode, edges}
use Rattle.model.specs.Walk.{Walk, here}
use Rattle.distance.specs.Search.{InFront, at, Settled, Status, waiting, settled, followed, State, Following}
use Rattle.distance.proofs.Lists.{AfterStore, set_cases}
use Rattle.distance.proofs.Nearest.{Nearer, nearer, no-shorter}
use Rattle.distance.proofs.Offer.{count-one-more, few}

-- the source waits, nothing else has been reached
pub start : (net : Network) (source bound : ℕ) (dist front : List ℕ) → IsNode net source → net.nodes < length dist → net.nodes ≤ length front → ((k : ℕ) → get_or dist k 0 ≡ 0) → State net source bound (set dist source 1) (set front 0 source) 1 0 0
unfolding count_below_of one_if
start net source bound dist front node room front_room clear =
    record {
      room = rw length-set room;
      front_room = rw length-set front_room;
      only_nodes = λ v h. subst (IsNode net) (sym (only v h (cases v))) node;
      walks = λ v n e. walk v n e (cases v);
      status = λ v h. waiting (at 0 (omega arith) (get_or-set_same front 0 source 0 inside ∙ sym (only v h (cases v))));
      from_source = itself;
      front_reached = λ k l. reached k l (set_cases front 0 source k inside);
      tally = omega (arith, tally (pred source) (omega (arith, node.from_one)));
      small = λ v. little v (cases v);
    }
  where
    inside : 0 < length front
    inside = omega (arith, node.from_one, node.to_nodes)

    fits : source < length dist
    fits = omega (arith, node.to_nodes)

    cases : (v : ℕ) → AfterStore dist source 1 v
    cases v = set_cases dist source 1 v fits

    itself : get_or (set dist source 1) source 0 ≡ 1
    itself = get_or-set_same dist source 1 0 fits

    only : (v : ℕ) → 1 ≤ get_or (set dist source 1) v 0 → AfterStore dist source 1 v → v ≡ source
    only v h (inl (e, q)) = e
    only v h (inr (e, q)) = omega (arith, clear v)

    walk : (v n : ℕ) → get_or (set dist source 1) v 0 ≡ suc n → AfterStore dist source 1 v → Walk net source v n
    walk v n h (inl (e, q)) = rw (e, zero-long) here
      where
        zero-long : n ≡ 0
        zero-long = omega arith
    walk v n h (inr (e, q)) = absurd (nothing (omega (arith, clear v)))
      where
        nothing : ◌≡◌ {A = ℕ} 0 1 → ⊥
        nothing x = omega arith

    reached : (k : ℕ) → k < 1 → AfterStore front 0 source k → 1 ≤ get_or (set dist source 1) (get_or (set front 0 source) k 0) 0
    reached k l (inl (e, q)) = rw (q, itself) (omega arith)
    reached k l (inr (e, q)) = absurd (e (omega arith))

    little : (v : ℕ) → AfterStore dist source 1 v → get_or (set dist source 1) v 0 ≤ suc (max_length * 0)
    little v (inl (e, q)) = omega arith
    little v (inr (e, q)) = omega (arith, clear v)

    off : (k : ℕ) → leb 1 (get_or dist (suc k) 0) ≡ false
    off k = lt-leb 1 (get_or dist (suc k) 0) (omega (arith, clear (suc k)))

    tally : (k : ℕ) → source ≡ suc k → count_below_of net.nodes (λ j. leb 1 (get_or (set dist source 1) (suc j) 0)) ≡ 1
    tally k e =
        count-one-more net.nodes k (λ j. leb 1 (get_or dist (suc j) 0)) (λ j. leb 1 (get_or (set dist source 1) (suc j) 0)) (omega (arith, node.to_nodes)) (off k)
        (le-leb 1 (get_or (set dist source 1) (suc k) 0) (subst (λ (j : ℕ). 1 ≤ get_or (set dist source 1) j 0) e (omega (arith, itself))))
        (λ j l other. ap (leb 1) (get_or-set_other dist source (suc j) 1 0 (λ q. other (omega arith))))
        ∙ ap suc (sum-below-zero net.nodes (λ j. one_if (leb 1 (get_or dist (suc j) 0))) (λ j l. ap one_if (off j)))

-- the nearest waiting node is picked; the last of the front takes its place
pub pick : (net : Network) (source bound : ℕ) (dist front : List ℕ) (len l picked k : ℕ) → State net source bound dist front len picked 0 → len ≡ suc l → k < len → ((j : ℕ) → j < len → get_or dist (get_or front k 0) 0 ≤ get_or dist (get_or front j 0) 0) → get_or dist (get_or front k 0) 0 ≤ suc bound → Following net source bound dist (set front k (get_or front l 0)) l (picked + 1) (get_or front k 0) (edges net + edges net)
pick net source bound dist front len l picked k s is h best near =
    record {
      state =
          record {
            room = s.room;
            front_room = rw length-set s.front_room;
            only_nodes = s.only_nodes;
            walks = s.walks;
            status = λ u r. status u r (ℕ_discrete u (get_or front k 0)) (s.status u r);
            from_source = s.from_source;
            front_reached = λ j j_in. reached j j_in (set_cases front k (get_or front l 0) j fits);
            tally = omega (arith, s.tally);
            small = λ u. omega (arith, s.small u);
          };
      so_far =
          record {
            reached = s.front_reached k h;
            exact = λ n way. exact n way (no-shorter s way);
            in_bound = near;
            followed = λ a low high e. absurd (never a low high);
          };
      next_small = omega (arith, s.small (get_or front k 0));
    }
  where
    fits : k < length front
    fits = omega (arith, few s, s.front_room)

    never : (a : ℕ) → edges net + edges net ≤ a → a < edges net + edges net → ⊥
    never a low high = omega arith

    exact : (n : ℕ) → Walk net source (get_or front k 0) n → Settled net source bound dist (get_or front k 0) 0 ⊎ Nearer dist front len n → get_or dist (get_or front k 0) 0 ≤ suc n
    exact n way (inl x) = x.exact n way
    exact n way (inr (nearer j j_in e)) = omega (arith, best j j_in)

    reached : (j : ℕ) → j < l → AfterStore front k (get_or front l 0) j → 1 ≤ get_or dist (get_or (set front k (get_or front l 0)) j 0) 0
    reached j j_in (inl (e, q)) = rw q (s.front_reached l (omega arith))
    reached j j_in (inr (e, q)) = rw q (s.front_reached j (omega arith))

    moved : (u j : ℕ) → j < len → get_or front j 0 ≡ u → u ≢ get_or front k 0 → Dec (j ≡ l) → InFront (set front k (get_or front l 0)) l u
    moved u j j_in e other (yes q) = at k (omega (arith, k-not-l)) (get_or-set_same front k (get_or front l 0) 0 fits ∙ sym (ap (λ (i : ℕ). get_or front i 0) q) ∙ e)
      where
        k-not-l : k ≢ l
        k-not-l z = other (sym e ∙ ap (λ (i : ℕ). get_or front i 0) (q ∙ sym z))
    moved u j j_in e other (no q) = at j (omega arith) (get_or-set_other front k j (get_or front l 0) 0 (λ z. other (sym e ∙ ap (λ (i : ℕ). get_or front i 0) z)) ∙ e)

    status : (u : ℕ) → 1 ≤ get_or dist u 0 → Dec (u ≡ get_or front k 0) → Status net source bound dist front len 0 u → Status net source bound dist (set front k (get_or front l 0)) l (get_or front k 0) u
    status u r (yes e) old = followed e
    status u r (no e) (waiting (at j j_in q)) = waiting (moved u j j_in q e (ℕ_discrete j l))
    status u r (no e) (settled x) = settled x
    status u r (no e) (followed q) = absurd (no_node q (s.only_nodes u r).from_one)
      where
        no_node : u ≡ 0 → 1 ≤ u → ⊥
        no_node z one = omega arith
