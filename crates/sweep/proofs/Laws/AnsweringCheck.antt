-- The verdict over two edges, put together from the checks that are made.
use Rattle.model.specs.declared.refusal.Fault.TheVariants.{BeyondEdge, ListsDiffer}
use mathlib.Core.Bool.{Bool, true, false, ◌&&◌, false≢true}
use mathlib.Core.List.{List}
use mathlib.Core.Path.{◌≡◌, ◌∙◌, refl, sym, ap, ap₂}
use Prim.Native.Nat.{ℕ, pred, ◌*◌, ◌/◌, ◌≤◌, ◌<◌}
use native.Mathlib.Omega.{arith}
use borrow.Author.Tests.{le-leb, lt-leb, leb-true, eq-eqb, ne_eqb}
use lib.Dec.{eqb, leb}
use lib.ListN.{length}
use Rattle.model.proofs.Laws.CheckParts.{lists-first}
use Rattle.model.proofs.Laws.Refusal.{stops-here, goes_on, or-else-next, or-else-accepted, both-accepted, both-accept, both_true, unless-accepted, unless-accepts}
use Rattle.model.proofs.Laws.Stretch.{having-length}
use Rattle.model.specs.Checks.{same_length_of, room_check, lone_edge_check, lone_offset_check, network_lists, event_lists, network_values, network_check, locations_over_network_check, event_values, order_check, laid_out_check}
use Rattle.model.specs.Events.{having, set_size}
use Rattle.model.specs.Network.{Network, size}
use Rattle.model.specs.Refusal.{or_else, unless, Check, accepted, refusal}
use Rattle.model.specs.declared.refusal.Refusal.{Refusal}
use Rattle.std.specs.Prelude.{Ok, Err}
use Rattle.sweep.specs.Answers.{cursors_check}
use Rattle.sweep.specs.Asked.{has_rooms_of}

-- one of three tests that refuse alike fails
one_of_three : (a b c : Bool) (rest : Check) → a && (b && c) ≡ false → or_else (unless a ListsDiffer 0) (or_else (unless b ListsDiffer 0) (or_else (unless c ListsDiffer 0) rest)) ≡ refusal ListsDiffer 0
unfolding or_else unless
one_of_three true true true rest h = absurd (false≢true (sym h))
one_of_three true true false rest h = refl
one_of_three true false c rest h = refl
one_of_three false b c rest h = refl

-- checks made twice, the check f of the second edge the first time alone
made-twice : (a v e f rest : Check) → or_else (or_else (or_else a v) (or_else e f)) (or_else a (or_else v (or_else e rest))) ≡ or_else a (or_else v (or_else e (or_else f rest)))
unfolding or_else
made-twice (Err x) v e f rest = refl
made-twice (Ok a) (Err x) e f rest = refl
made-twice (Ok a) (Ok v) (Err x) f rest = refl
made-twice (Ok a) (Ok v) (Ok e) (Err x) rest = refl
made-twice (Ok a) (Ok v) (Ok e) (Ok f) rest = refl

-- offset 0 is on every edge
at-start : (net : Network) (e : ℕ) → lone_offset_check net e 0 ≡ accepted
unfolding lone_offset_check
at-start net e = unless-accepts _ BeyondEdge 0 (le-leb 0 (size net (pred e)) (omega arith))

module _ (es xs : List ℕ) (e : ℕ) (ps ms : List ℕ) where
  -- how room is tested: n events on the first edge, and a quotient in place of a product, which might not fit
  pub lists-differ : (length es ≡ length xs → ⊥) → false ≡ has_rooms_of es xs e ps ms
  unfolding has_rooms_of
  lists-differ h = sym (rw (ne_eqb _ _ h))

  module _ (n : ℕ) (same : length es ≡ length xs) (n-is : n ≡ set_size es e) where
    found : length (having e es xs) ≡ n
    found = having-length e es xs same ∙ sym n-is

    pub room-short : length ps / 6 < n → false ≡ has_rooms_of es xs e ps ms
    unfolding has_rooms_of
    room-short h = sym (rw (eq-eqb _ _ same, lt-leb (6 * length (having e es xs)) (length ps) (omega (arith, found))))

    pub room-enough : n ≤ length ps / 6 → leb 6 (length ms) ≡ has_rooms_of es xs e ps ms
    unfolding has_rooms_of
    room-enough h = sym (rw (eq-eqb _ _ same, le-leb (6 * length (having e es xs)) (length ps) (omega (arith, found))))

module _ (net : Network) (es xs : List ℕ) (e f : ℕ) (ps ms : List ℕ) where
  -- too little room, or lists that differ, whatever the network
  pub no-rooms : has_rooms_of es xs e ps ms ≡ false → refusal ListsDiffer 0 ≡ cursors_check net es xs e f ps ms
  unfolding has_rooms_of cursors_check event_lists same_length_of room_check
  no-rooms h = sym (lists-first net (one_of_three _ _ _ _ h))

  two_edges : locations_over_network_check net e 0 f 0 ≡ or_else (or_else (network_lists net) (network_values accepted net)) (or_else (lone_edge_check net e) (lone_edge_check net f))
  unfolding locations_over_network_check network_check
  two_edges =
      ap (λ (c : Check). or_else (or_else (network_lists net) (network_values accepted net)) (or_else (lone_edge_check net e) (or_else (lone_edge_check net f) c))) (both-accept (at-start net e) (at-start net f))
      ∙ ap (λ (c : Check). or_else (or_else (network_lists net) (network_values accepted net)) (or_else (lone_edge_check net e) c)) (or-else-accepted (lone_edge_check net f))

  -- with room, the network and the two edges are checked, and then the events
  with-rooms : has_rooms_of es xs e ps ms ≡ true → or_else (locations_over_network_check net e 0 f 0) (laid_out_check net es xs e) ≡ cursors_check net es xs e f ps ms
  unfolding has_rooms_of cursors_check laid_out_check event_lists same_length_of room_check
  with-rooms h =
      let lists = both_true _ _ h in
      let both = both_true _ _ lists.1 in
      let same = unless-accepts (eqb (length es) (length xs)) ListsDiffer 0 lists.0 in
      let room = unless-accepts (leb (6 * length (having e es xs)) (length ps)) ListsDiffer 0 both.0 in
      let sums = unless-accepts (leb 6 (length ms)) ListsDiffer 0 both.1 in
      let behind = or_else (event_values net es xs) (order_check es xs) in
      let named = or_else (network_values accepted net) (or_else (lone_edge_check net e) (or_else (lone_edge_check net f) behind)) in
      ap₂ or_else two_edges (ap (or_else (network_lists net)) (or-else-next _ same))
      ∙ made-twice (network_lists net) (network_values accepted net) (lone_edge_check net e) (lone_edge_check net f) behind
      ∙ ap (or_else (network_lists net)) (sym (or-else-next _ same ∙ or-else-next _ room ∙ or-else-next named sums))

  -- either of the two decides
  pub edges-refused : {r : Check} {x : Refusal} → has_rooms_of es xs e ps ms ≡ true → r ≡ locations_over_network_check net e 0 f 0 → r ≡ Err x → r ≡ cursors_check net es xs e f ps ms
  edges-refused roomy told refused = stops-here (laid_out_check net es xs e) told refused ∙ with-rooms roomy

  pub edges-accepted : {r s : Check} → has_rooms_of es xs e ps ms ≡ true → r ≡ locations_over_network_check net e 0 f 0 → r ≡ accepted → s ≡ laid_out_check net es xs e → s ≡ cursors_check net es xs e f ps ms
  edges-accepted roomy told accepted next = goes_on told accepted next ∙ with-rooms roomy

  -- accepted: the events are laid out, both edges are named, and there is room
  pub record CursorsAccepted : Type 0 where
    pub first_laid : laid_out_check net es xs e ≡ accepted
    pub second_laid : laid_out_check net es xs f ≡ accepted
    pub room : 6 * length (having e es xs) ≤ length ps
    pub sums_room : 6 ≤ length ms

  pub cursors-accepted : cursors_check net es xs e f ps ms ≡ accepted → CursorsAccepted
  unfolding cursors_check laid_out_check room_check
  cursors-accepted h =
      let lists = both-accepted _ _ h in
      let same = both-accepted _ _ lists.1 in
      let roomy = both-accepted _ _ same.1 in
      let sums = both-accepted _ _ roomy.1 in
      let values = both-accepted _ _ sums.1 in
      let named-e = both-accepted _ _ values.1 in
      let named-f = both-accepted _ _ named-e.1 in
      record {
        first_laid = both-accept lists.0 (both-accept same.0 (both-accept values.0 (both-accept named-e.0 named-f.1)));
        second_laid = both-accept lists.0 (both-accept same.0 (both-accept values.0 (both-accept named-f.0 named-f.1)));
        room = leb-true _ _ (unless-accepted _ ListsDiffer 0 roomy.0);
        sums_room = leb-true _ _ (unless-accepted _ ListsDiffer 0 sums.0);
      }
