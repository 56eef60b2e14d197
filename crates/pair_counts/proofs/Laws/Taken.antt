-- The cursors take the set asked about: nothing of it is refused.
use mathlib.Core.Bool.{Bool, not}
use mathlib.Core.List.{List, [], ◌∷◌, map}
use mathlib.Core.Path.{◌≡◌, refl, sym, ap, ap₂, ◌∙◌}
use Prim.Native.Nat.{ℕ, zero, suc, pred, ◌+◌, ◌-◌, ◌*◌, ◌≤◌, ◌<◌}
use native.Mathlib.Omega.{arith}
use borrow.Author.Tests.{le-leb}
use lib.Dec.{eqb, leb}
use lib.ListN.{length, get_or, take, drop, length-map, length-take, get_or-map}
use lib.Seq.{get_or-take, get_or-drop}
use Rattle.model.proofs.Laws.Checks.{SetsAccepted, AreEvents, network-accepts, events-accept}
use Rattle.model.proofs.Laws.CheckParts.{same-length-accepts}
use Rattle.model.proofs.Laws.Counting.{count_map, count-rearranged}
use Rattle.model.proofs.Laws.Refusal.{both-accept, both-accepted, unless-accepts, all-good}
use Rattle.model.proofs.Laws.Sorted.{sorted-rearranged, sorted-in-order, in-order-at}
use Rattle.model.proofs.Laws.Stretch.{having-length}
use Rattle.model.specs.Checks.{network_check, network_lists, network_values, event_lists, order_check, room_check, lone_edge_check}
use Rattle.model.specs.Counting.{count_if, one_if}
use Rattle.model.specs.Events.{Event, event, events, having, before, sorted, InOrder, IsEvent, set_size, greatest_set_of}
use Rattle.model.specs.Limits.{max_events}
use Rattle.model.specs.Network.{Network}
use Rattle.model.specs.PairCount.{event_at}
use Rattle.model.specs.Refusal.{or_else, accepted}
use Rattle.sweep.specs.Answers.{cursors_check}
use Rattle.prepare.proofs.Laws.Groups.{having-events}
use Rattle.prepare.proofs.Laws.LaidEvents.{laid-is-event}
use Rattle.prepare.specs.Prepared.{Prepared, laid_out_set}
use Rattle.pair_counts.proofs.Laws.AskedSet.{set-bounds, edges-part, offsets-part, set-same-length}
use Rattle.pair_counts.specs.Asked.{bound_of}
use Rattle.pair_counts.specs.Claim.{on_edge_of, set_edges, set_offsets}

-- an event by its edge and its offset
event-of : (l : List Event) (k : ℕ) → event (get_or (map (λ e. e.edge) l) k 0) (get_or (map (λ e. e.offset) l) k 0) ≡ event_at l k
event-of l k = ap₂ event (get_or-map (λ e. e.edge) l k (event 0 0)) (get_or-map (λ e. e.offset) l k (event 0 0))

order-accepts : (l : List Event) → InOrder l → order_check (map (λ e. e.edge) l) (map (λ e. e.offset) l) ≡ accepted
unfolding order_check
order-accepts l ok =
    all-good _ _ 1 (pred (length (map (λ e. e.edge) l)))
    (λ k from to. ap₂ (λ (a b : Event). not (before a b)) (event-of l k) (event-of l (pred k)) ∙ ap not (in-order-at l ok (pred k) k (omega arith) (inside k from to)))
  where
    inside : (k : ℕ) → 1 ≤ k → k < 1 + pred (length (map (λ e. e.edge) l)) → k < length l
    inside k from to = rw length-map at (few (length (map (λ e. e.edge) l)) k from to)
      where
        few : (n k : ℕ) → 1 ≤ k → k < 1 + pred n → k < n
        few zero k from to = absurd (omega arith)
        few (suc n) k from to = omega arith

-- a part is at most as long as was asked
length-take-most : {A : Type 0} (n : ℕ) (l : List A) → length (take n l) ≤ n
length-take-most n l = rw (length-take n l) (omega arith)

-- on an edge, by the list of edges alone
count-edges : (e : ℕ) (es xs : List ℕ) → length es ≡ length xs → count_if (λ v. eqb v.edge e) (events es xs) ≡ count_if (λ f. eqb f e) es
unfolding count_if events
count-edges e [] xs h = refl
count-edges e (f ∷ es) [] h = absurd (omega arith)
count-edges e (f ∷ es) (x ∷ xs) h = ap (λ (n : ℕ). one_if (eqb f e) + n) (count-edges e es xs (omega arith))

module _ {net : Network} {sets es xs ts edges offsets bounds set_runs_of table : List ℕ} (good : SetsAccepted net sets es xs)
    (p : Prepared net sets es xs ts edges offsets bounds set_runs_of table) (s : ℕ) where
  abbrev edges-of : List ℕ
  edges-of = set_edges sets es xs s

  abbrev offsets-of : List ℕ
  offsets-of = set_offsets sets es xs s

  -- so many on an edge before and after laying out
  pub on-edge-laid : (e : ℕ) → length (having e edges-of offsets-of) ≡ on_edge_of sets es s e
  unfolding on_edge_of set_edges laid_out_set set_size
  on-edge-laid e =
      let l : List Event = laid_out_set sets (events es xs) s in
      let same = good.are-events.same_length in
      having-length e edges-of offsets-of (set-same-length sets es xs s)
      ∙ count_map (λ f. eqb f e) (λ v. v.edge) l
      ∙ sym (count-rearranged (λ v. eqb v.edge e) (sorted-rearranged (having s sets (events es xs))))
      ∙ ap (count_if (λ v. eqb v.edge e)) (having-events s sets es xs same)
      ∙ count-edges e (having s sets es) (having s sets xs) (having-length s sets es good.sets_length ∙ sym (having-length s sets xs (good.sets_length ∙ same)))

  -- its events lie on the network
  pub set-are-events : (exists : Bool) → exists ≡ leb s (greatest_set_of sets) → AreEvents net edges-of offsets-of
  set-are-events exists is =
      let inside = set-bounds good p s exists is in
      let from = bound_of set_runs_of bounds exists s in
      let to = bound_of set_runs_of bounds exists (suc s) in
      let few : length es ≤ max_events = good.are-events.few in
      record {
        same_length = set-same-length sets es xs s;
        event-at = λ k h. at exists is k h;
        few = omega (arith, long exists is);
      }
    where
      long : (exists : Bool) → exists ≡ leb s (greatest_set_of sets) → length edges-of ≤ bound_of set_runs_of bounds exists (suc s) - bound_of set_runs_of bounds exists s
      long exists is = rw (← (edges-part good p s exists is)) (length-take-most (bound_of set_runs_of bounds exists (suc s) - bound_of set_runs_of bounds exists s) _)

      at : (exists : Bool) → exists ≡ leb s (greatest_set_of sets) → (k : ℕ) → k < length edges-of → IsEvent net (event (get_or edges-of k 0) (get_or offsets-of k 0))
      at exists is k h =
          let from = bound_of set_runs_of bounds exists s in
          let to = bound_of set_runs_of bounds exists (suc s) in
          let within : k < to - from = omega (arith, long exists is) in
          let inside = set-bounds good p s exists is in
          rw (
            ← (edges-part good p s exists is),
            ← (offsets-part good p s exists is),
            get_or-take (to - from) (drop from edges) k 0 within,
            get_or-take (to - from) (drop from offsets) k 0 within,
            get_or-drop from edges k 0,
            get_or-drop from offsets k 0,
          )
          (laid-is-event good p (from + k) (omega arith))

  -- nothing is refused
  pub cursors-accept : (exists : Bool) → exists ≡ leb s (greatest_set_of sets) → (e f : ℕ) (ps ms : List ℕ) → 6 * on_edge_of sets es s e ≤ length ps → 6 ≤ length ms → lone_edge_check net e ≡ accepted → lone_edge_check net f ≡ accepted → cursors_check net edges-of offsets-of e f ps ms ≡ accepted
  unfolding cursors_check event_lists room_check
  cursors-accept exists is e f ps ms positions moves first second =
      let network = both-accepted _ _ (checked net (network-accepts net good.is-network)) in
      let roomy : 6 * length (having e edges-of offsets-of) ≤ length ps = rw (on-edge-laid e) positions in
      both-accept network.0
      (both-accept (same-length-accepts edges-of offsets-of (set-same-length sets es xs s))
      (both-accept (unless-accepts _ _ _ (le-leb _ _ roomy))
      (both-accept (unless-accepts _ _ _ (le-leb _ _ moves))
      (both-accept network.1
      (both-accept first
      (both-accept second
      (both-accept (events-accept net edges-of offsets-of (set-are-events exists is)) ordered)))))))
    where
      checked : (net : Network) → network_check net ≡ accepted → or_else (network_lists net) (network_values accepted net) ≡ accepted
      checked net e = unfold network_check in e

      ordered : order_check edges-of offsets-of ≡ accepted
      ordered = unfold set_edges set_offsets laid_out_set in order-accepts (sorted (having s sets (events es xs))) (sorted-in-order (having s sets (events es xs)))
