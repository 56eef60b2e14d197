-- The verdict of storing, put together from the checks that are made, and what acceptance tells.
use Rattle.std.specs.Prelude.{Ok, Err}
use Rattle.model.specs.declared.refusal.Fault.TheVariants.{ListsDiffer, NoEdge}
use mathlib.Core.Bool.{false, true≢false}
use mathlib.Core.List.{List}
use mathlib.Core.Path.{◌≡◌, refl, sym, ap, ◌∙◌}
use Prim.Native.Nat.{ℕ, suc, ◌≤◌, ◌<◌}
use native.Mathlib.Decide.{dec_le}
use native.Mathlib.Omega.{arith}
use borrow.Author.Tests.{le-leb, lt-leb, leb-true, lt-ltb, le-ltb, eq-eqb}
use lib.ListN.{length, get_or}
use Rattle.model.proofs.Laws.CheckParts.{lists-first, sizes-accepted, order-accepted}
use Rattle.model.proofs.Laws.Checks.{LaidOutAccepted, laid-out-accepted}
use Rattle.model.proofs.Laws.Refusal.{or-else-next, or-else-refused, two-or-accepted, unless-accepts, unless-refuses, unless-accepted, both-accepted, true-between}
use Rattle.model.proofs.Laws.Stretch.{laid-out-rise}
use Rattle.model.specs.Checks.{same_length_of, network_lists, event_lists, room_check, network_values, lone_edge_check, laid_out_check}
use Rattle.model.specs.Events.{Event, event, before}
use Rattle.model.specs.Network.{Network, edges}
use Rattle.model.specs.Refusal.{or_else, Check, accepted, refusal}
use Rattle.count_augmentation.specs.Augmented.{augment_check}
use Rattle.count_augmentation.specs.Events.{LaidOut}

-- what comes behind a check need only be the same where it accepts
same-behind : (a b c : Check) → (a ≡ accepted → b ≡ c) → or_else a b ≡ or_else a c
unfolding or_else
same-behind (Ok done) b c same = same refl
same-behind (Err x) b c same = refl

-- on one edge, an event that does not come before another has no lower offset
offset-rises : (e f : Event) → e.edge ≡ f.edge → before f e ≡ false → e.offset ≤ f.offset
unfolding before
offset-rises e f same h = go (dec_le e.offset f.offset)
  where
    go : Dec (e.offset ≤ f.offset) → e.offset ≤ f.offset
    go (yes l) = l
    go (no l) = absurd (true≢false (rw (le-ltb f.edge e.edge (omega arith), eq-eqb f.edge e.edge (sym same), lt-ltb f.offset e.offset (omega arith)) at h))

-- a network has an edge 1
has-edge : (net : Network) → network_values accepted net ≡ accepted → lone_edge_check net 1 ≡ accepted
unfolding network_values lone_edge_check
has-edge net e =
    let some = (sizes-accepted net.nodes (edges net) (both-accepted _ _ e).0).1 in
    unless-accepts _ NoEdge 0 (true-between 1 (edges net) 1 (omega arith) some.from)

module _ (net : Network) (es xs near_first near-second : List ℕ) where
  -- too little room is refused, whatever the lengths of the lists
  refused-behind : (rest : Check) → rest ≡ refusal ListsDiffer 0 → or_else (network_lists net) (or_else (event_lists es xs) rest) ≡ refusal ListsDiffer 0
  unfolding event_lists same_length_of
  refused-behind rest e = lists-first net (two-or-accepted _ _ e)

  pub no-room-first : length near_first < length es → refusal ListsDiffer 0 ≡ augment_check net es xs near_first near-second
  unfolding augment_check room_check
  no-room-first h =
      sym (refused-behind _ (or-else-refused _ (unless-refuses _ ListsDiffer 0 (lt-leb (length es) (length near_first) h))))

  pub no-room-second : length near-second < length es → refusal ListsDiffer 0 ≡ augment_check net es xs near_first near-second
  unfolding augment_check room_check
  no-room-second h =
      sym (refused-behind _ (two-or-accepted _ _ (or-else-refused _ (unless-refuses _ ListsDiffer 0 (lt-leb (length es) (length near-second) h)))))

  -- with room enough, the set is checked as one laid out
  pub with-room : length es ≤ length near_first → length es ≤ length near-second → laid_out_check net es xs 1 ≡ augment_check net es xs near_first near-second
  unfolding augment_check laid_out_check room_check
  with-room h l =
      let first_room_of = unless-accepts _ ListsDiffer 0 (le-leb (length es) (length near_first) h) in
      let second_room_of = unless-accepts _ ListsDiffer 0 (le-leb (length es) (length near-second) l) in
      ap (λ (c : Check). or_else (network_lists net) (or_else (event_lists es xs) c))
      (same-behind (network_values accepted net) _ _ (λ e. or-else-next _ (has-edge net e))
      ∙ sym (or-else-next _ first_room_of ∙ or-else-next _ second_room_of))

  -- accepted: the set is laid out, and there is room
  pub record AugmentAccepted : Type 0 where
    pub first_room_of : length es ≤ length near_first
    pub second_room_of : length es ≤ length near-second
    pub laid : LaidOutAccepted net es xs 1
    pub in_order : LaidOut es xs

  pub augment-accepted : augment_check net es xs near_first near-second ≡ accepted → AugmentAccepted
  unfolding augment_check room_check
  augment-accepted e =
      let behind = (both-accepted _ _ (both-accepted _ _ e).1).1 in
      let rooms = both-accepted _ _ behind in
      let first_room_of = leb-true _ _ (unless-accepted _ ListsDiffer 0 rooms.0) in
      let second_room_of = leb-true _ _ (unless-accepted _ ListsDiffer 0 (both-accepted _ _ rooms.1).0) in
      let order = (both-accepted _ _ (both-accepted _ _ (both-accepted _ _ rooms.1).1).1).1 in
      let all_laid : laid_out_check net es xs 1 ≡ accepted = with-room first_room_of second_room_of ∙ e in
      let laid = laid-out-accepted net es xs 1 all_laid in
      record {
        first_room_of = first_room_of;
        second_room_of = second_room_of;
        laid = laid;
        in_order = record {
          same_length = laid.are-events.same_length;
          few = laid.are-events.few;
          edges_rise = laid-out-rise net es xs 1 all_laid;
          offsets_rise = λ k h same. offset-rises (event (get_or es k 0) (get_or xs k 0)) (event (get_or es (suc k) 0) (get_or xs (suc k) 0)) same (order-accepted es xs order k h);
        };
      }
