-- The claim put together from what its parts promise.
use Rattle.model.specs.Refusal.{Check, accepted}
use Rattle.model.specs.declared.refusal.Refusal.{Refusal}
use Rattle.std.specs.Prelude.{Err}
use mathlib.Core.Bool.{Bool, true, false}
use mathlib.Core.List.{List}
use mathlib.Core.Path.{◌≡◌, refl, sym, ap, ap₂, ◌∙◌}
use Prim.Native.Nat.{ℕ, zero, suc, ◌+◌, ◌*◌, ◌≤◌, ◌<◌, min}
use native.Mathlib.Numerals.{add-one}
use native.Mathlib.Omega.{arith}
use borrow.Author.Tests.{leb-true}
use lib.Dec.{leb}
use lib.ListN.{length, get_or, get_or-append}
use Rattle.model.proofs.Laws.Answer.{written-refused}
use Rattle.model.specs.Answer.{written}
use Rattle.model.specs.Checks.{lone_edge_check}
use Rattle.model.specs.Distance.{Distance, metres, none}
use Rattle.model.specs.Events.{events, having, greatest_set_of, set_count}
use Rattle.model.specs.Limits.{max_set, max_events}
use Rattle.model.specs.Location.{at_first, at_second}
use Rattle.model.specs.Network.{Network}
use Rattle.model.proofs.Laws.Refusal.{not-accepted}
use Rattle.sweep.proofs.Laws.Claim.{moves-one-way}
use Rattle.sweep.specs.Answers.{marked, marked_if, route_moves, cursors_check, cursor_positions, cursor_moves, CursorsAnswered}
use Rattle.sweep.specs.OneWay.{MovesOneWay}
use Rattle.prepare.proofs.Laws.InRuns.{set-runs-rise}
use Rattle.prepare.proofs.Laws.Verdict.{CountsAccepted, counts-accepted}
use Rattle.prepare.specs.Counts.{counts_check, count_table, CountsAnswered}
use Rattle.prepare.specs.Prepared.{Prepared, Ready, greatest}
use Rattle.pair_counts.proofs.Laws.AskedSet.{set-bounds, edges-part, offsets-part, set-in-order}
use Rattle.pair_counts.proofs.Laws.Entries.{entry-joined}
use Rattle.pair_counts.proofs.Laws.Taken.{cursors-accept}
use Rattle.pair_counts.proofs.Laws.Verdict.{lowest-accepted, asked-accepted, room-accepted, roomier}
use Rattle.pair_counts.specs.Asked.{set_part, SweepAsked, Counted}
use Rattle.pair_counts.specs.Claim.{lowest, on_edge_of, cursor_room, asked_check, claim_check, set_edges, set_offsets, AllJoined, PairCountsAnswered}

-- a cursor's number as it is handed out
marked-few : (d : Distance) {n m : ℕ} → n ≤ m → marked d n ≤ suc m
unfolding marked
marked-few none h = omega arith
marked-few (metres k) h = omega arith

marked-if-few : (b : Bool) {n m : ℕ} → n ≤ m → marked_if b n ≤ suc m
unfolding marked_if
marked-if-few true h = omega arith
marked-if-few false h = omega arith

-- the six sums of moves as they are handed out
module _ {net : Network} {es xs : List ℕ} {e f t bound : ℕ} (one_way : MovesOneWay net es xs e f t bound) where
  six-few : (c : ℕ) → c < 6 → get_or (cursor_moves net es xs e f t bound) c 0 ≤ suc (length (having f es xs))
  unfolding cursor_moves route_moves
  six-few zero h = marked-few _ (one_way.route_moves_few at_first at_first)
  six-few (suc zero) h = marked-few _ (one_way.route_moves_few at_first at_second)
  six-few (suc (suc zero)) h = marked-few _ (one_way.route_moves_few at_second at_first)
  six-few (suc (suc (suc zero))) h = marked-few _ (one_way.route_moves_few at_second at_second)
  six-few (suc (suc (suc (suc zero)))) h = marked-if-few _ one_way.below_moves_few
  six-few (suc (suc (suc (suc (suc zero))))) h = marked-if-few _ one_way.up_to_moves_few
  six-few (suc (suc (suc (suc (suc (suc c)))))) h = absurd (omega arith)

  six-long : length (cursor_moves net es xs e f t bound) ≡ 6
  unfolding cursor_moves
  six-long = refl

moves-few : {net : Network} {es xs : List ℕ} {e f t bound : ℕ} {verdict : Check} {ms' : List ℕ} (ms : List ℕ) → verdict ≡ accepted → ms' ≡ written verdict (cursor_moves net es xs e f t bound) ms → MovesOneWay net es xs e f t bound → (c : ℕ) → c < 6 → get_or ms' c 0 ≤ suc (length (having f es xs))
unfolding written
moves-few {net} {es} {xs} {e} {f} {t} {bound} ms told is one_way c h =
    rw (is, told, get_or-append (cursor_moves net es xs e f t bound) _ 0 c (rw (six-long one_way) h)) (six-few one_way c h)

-- the parts of the verdict
pub record Verdicts (net : Network) (sets es xs ts : List ℕ) (s e f : ℕ) (ranged augmented shared ps ms edges offsets bounds set_runs_of table : List ℕ) (room : ℕ) (verdict : Check) : Type 0 where
  pub counted : Check
  pub asked : Check
  pub roomy : Check
  pub inner : Check
  pub room-is : room ≡ min (length ranged) (min (length augmented) (length shared))
  pub ready : Ready net sets es xs ts room counted edges offsets bounds set_runs_of table
  pub asked_is : asked ≡ asked_check net s e f
  pub roomy-is : roomy ≡ cursor_room sets es s e ps ms
  pub inner-is : inner ≡ lowest asked counted
  pub verdict-is : verdict ≡ lowest roomy inner

-- what acceptance says
pub record Taken (net : Network) (sets es xs ts : List ℕ) (s e f : ℕ) (ps ms edges offsets bounds set_runs_of table : List ℕ) (room : ℕ) : Type 0 where
  pub checked : counts_check net sets es xs ts room ≡ accepted
  pub lists : Prepared net sets es xs ts edges offsets bounds set_runs_of table
  pub small : s ≤ max_set
  pub first_edge : lone_edge_check net e ≡ accepted
  pub second_edge : lone_edge_check net f ≡ accepted
  pub positions-room : 6 * on_edge_of sets es s e ≤ length ps
  pub moves-room : 6 ≤ length ms

module _ {net : Network} {sets es xs ts : List ℕ} {s e f : ℕ} {ranged augmented shared ps ms edges offsets bounds set_runs_of table : List ℕ} {room : ℕ} {verdict : Check} (v : Verdicts net sets es xs ts s e f ranged augmented shared ps ms edges offsets bounds set_runs_of table room verdict) where
  pub verdict-whole : verdict ≡ claim_check net sets es xs ts s e f (min (length ranged) (min (length augmented) (length shared))) ps ms
  unfolding claim_check
  verdict-whole =
      v.verdict-is
      ∙ ap₂ lowest v.roomy-is (v.inner-is ∙ ap₂ lowest v.asked_is (v.ready.verdict ∙ ap (counts_check net sets es xs ts) v.room-is))

  pub taken : verdict ≡ accepted → Taken net sets es xs ts s e f ps ms edges offsets bounds set_runs_of table room
  taken told =
      let outer = lowest-accepted v.roomy v.inner (sym v.verdict-is ∙ told) in
      let both = lowest-accepted v.asked v.counted (sym v.inner-is ∙ outer.1) in
      let ok = sym v.ready.verdict ∙ both.1 in
      let asked = asked-accepted net s e f (sym v.asked_is ∙ both.0) in
      let rooms = room-accepted sets es ps ms s e (sym v.roomy-is ∙ outer.0) in
      record {
        checked = ok;
        lists = v.ready.prepared ok;
        small = leb-true _ _ asked.0;
        first_edge = asked.1;
        second_edge = asked.2;
        positions-room = rooms.0;
        moves-room = rooms.1;
      }

  -- on refusal every list is as it was
  pub refused-claim : {t : ℕ} {x : Refusal} → verdict ≡ Err x → PairCountsAnswered net sets es xs ts s t e f ranged augmented shared ps ms verdict ranged augmented shared ps ms
  refused-claim told =
      record {
        verdict = verdict-whole;
        by_range_of = written-refused _ _ told;
        by_augmentation_of = written-refused _ _ told;
        by_sharing_of = written-refused _ _ told;
        positions_after = written-refused _ _ told;
        moves_after = written-refused _ _ told;
        range_joined = λ ok. not-accepted (sym told ∙ ok);
        augmentation_joined = λ ok. not-accepted (sym told ∙ ok);
        sharing_joined = λ ok. not-accepted (sym told ∙ ok);
        few_moves = λ ok. not-accepted (sym told ∙ ok);
        one_way = λ ok. not-accepted (sym told ∙ ok);
      }

module _ {net : Network} {sets es xs ts : List ℕ} {s e f : ℕ} {ps ms edges offsets bounds set_runs_of table : List ℕ} {room : ℕ} (w : Taken net sets es xs ts s e f ps ms edges offsets bounds set_runs_of table room) where
  abbrev all : CountsAccepted net sets es xs ts room
  all = counts-accepted net sets es xs ts room w.checked

  -- what the sweep asks
  pub sweep-asks : length edges ≡ max_events → length offsets ≡ max_events → length bounds ≡ suc max_events → length set_runs_of ≡ max_set + 2 → SweepAsked sets ts edges offsets bounds set_runs_of s
  unfolding set_count
  sweep-asks long-edges long-offsets long-bounds long-runs =
      let inside = set-bounds all.sets-are w.lists s (leb s (greatest_set_of sets)) refl in
      let few : length es ≤ max_events = all.sets-are.are-events.few in
      let fits : s ≤ max_set = w.small in
      record {
        thresholds = all.thresholds-are.some;
        small = w.small;
        begin =
            record {
              in_runs = λ ex. omega arith;
              in_bounds = λ ex. runs-in s (omega (arith, leb-true s (greatest_set_of sets) ex));
            };
        end =
            record {
              in_runs = λ ex. omega arith;
              in_bounds = λ ex. runs-in (s + 1) (omega (arith, leb-true s (greatest_set_of sets) ex));
            };
        in_order = rw (add-one s) inside.0;
        in_edges = rw (add-one s) (omega (arith, inside.1));
        in_offsets = rw (add-one s) (omega (arith, inside.1));
      }
    where
      runs-in : (k : ℕ) → k ≤ suc (greatest_set_of sets) → get_or set_runs_of k 0 < length bounds
      runs-in k h =
          let last : get_or set_runs_of k 0 ≤ get_or set_runs_of (set_count sets) 0 = set-runs-rise all.sets-are w.lists k (set_count sets) (unfold set_count in h) (omega arith) in
          omega (arith, w.lists.runs.few, all.sets-are.are-events.few)

  -- what a method wrote
  pub table_is : {verdict r : Check} {old new : List ℕ} → verdict ≡ accepted → room ≤ length old → CountsAnswered net sets es xs ts old r new → new ≡ written verdict (count_table net sets (events es xs) ts) old
  table_is {old = old} told fits answered =
      answered.after ∙ ap (λ (c : Check). written c (count_table net sets (events es xs) ts) old) (roomier net sets es xs ts room (length old) fits w.checked ∙ sym told)

  pub joined_is : {verdict : Check} {new : List ℕ} (old : List ℕ) → new ≡ written verdict (count_table net sets (events es xs) ts) old → verdict ≡ accepted → AllJoined net sets es xs ts new
  joined_is {verdict} {new} old is told =
      record { joined = λ u k h l. entry-joined net sets (events es xs) ts all.sets-are.is-network.ends verdict old new u k told is h l }

  -- the sweep's parts are the set's lists
  pub part-edges : set_part sets set_runs_of bounds s edges ≡ set_edges sets es xs s
  unfolding set_part
  part-edges = rw (add-one s) (edges-part all.sets-are w.lists s (leb s (greatest_set_of sets)) refl)

  pub part-offsets : set_part sets set_runs_of bounds s offsets ≡ set_offsets sets es xs s
  unfolding set_part
  part-offsets = rw (add-one s) (offsets-part all.sets-are w.lists s (leb s (greatest_set_of sets)) refl)

  cursors-checked : cursors_check net (set_edges sets es xs s) (set_offsets sets es xs s) e f ps ms ≡ accepted
  cursors-checked =
      cursors-accept all.sets-are w.lists s (leb s (greatest_set_of sets)) refl e f ps ms w.positions-room w.moves-room w.first_edge w.second_edge

  pub cursors-are : {t : ℕ} {r : Check} {ps' ms' : List ℕ} → CursorsAnswered net (set_part sets set_runs_of bounds s edges) (set_part sets set_runs_of bounds s offsets) e f t (greatest ts) ps ms r ps' ms' → CursorsAnswered net (set_edges sets es xs s) (set_offsets sets es xs s) e f t (greatest ts) ps ms r ps' ms'
  cursors-are answered = rw (part-edges, part-offsets) at answered

  pub positions_are : {verdict : Check} {t : ℕ} {r : Check} {ps' ms' : List ℕ} → verdict ≡ accepted → CursorsAnswered net (set_edges sets es xs s) (set_offsets sets es xs s) e f t (greatest ts) ps ms r ps' ms' → ps' ≡ written verdict (cursor_positions net (set_edges sets es xs s) (set_offsets sets es xs s) e f t (greatest ts)) ps
  positions_are {t = t} told answered =
      answered.positions_after ∙ ap (λ (c : Check). written c (cursor_positions net (set_edges sets es xs s) (set_offsets sets es xs s) e f t (greatest ts)) ps) (cursors-checked ∙ sym told)

  pub moves_are : {verdict : Check} {t : ℕ} {r : Check} {ps' ms' : List ℕ} → verdict ≡ accepted → CursorsAnswered net (set_edges sets es xs s) (set_offsets sets es xs s) e f t (greatest ts) ps ms r ps' ms' → ms' ≡ written verdict (cursor_moves net (set_edges sets es xs s) (set_offsets sets es xs s) e f t (greatest ts)) ms
  moves_are {t = t} told answered =
      answered.moves_after ∙ ap (λ (c : Check). written c (cursor_moves net (set_edges sets es xs s) (set_offsets sets es xs s) e f t (greatest ts)) ms) (cursors-checked ∙ sym told)

-- on acceptance: the whole claim
module _ {net : Network} {sets es xs ts : List ℕ} {s e f : ℕ} {ranged augmented shared ps ms edges offsets bounds set_runs_of table : List ℕ} {room : ℕ} {verdict : Check} (v : Verdicts net sets es xs ts s e f ranged augmented shared ps ms edges offsets bounds set_runs_of table room verdict) (told : verdict ≡ accepted) where
  pub accepted-claim : {t : ℕ} {r : Check} {ranged' augmented' shared' ps' ms' : List ℕ} → Counted net sets es xs ts ranged ranged' → Counted net sets es xs ts augmented augmented' → Counted net sets es xs ts shared shared' → CursorsAnswered net (set_part sets set_runs_of bounds s edges) (set_part sets set_runs_of bounds s offsets) e f t (greatest ts) ps ms r ps' ms' → PairCountsAnswered net sets es xs ts s t e f ranged augmented shared ps ms verdict ranged' augmented' shared' ps' ms'
  accepted-claim by_range_of by_augmentation_of by_sharing_of swept =
      let w = taken v told in
      let room-is = v.room-is in
      let ranged-is = table_is w told (omega arith) by_range_of.answered in
      let augmented-is = table_is w told (omega arith) by_augmentation_of.answered in
      let shared-is = table_is w told (omega arith) by_sharing_of.answered in
      let cursors = cursors-are w swept in
      let one_way = moves-one-way net (set_edges sets es xs s) (set_offsets sets es xs s) e f _ (greatest ts) (set-in-order sets es xs s) in
      record {
        verdict = verdict-whole v;
        by_range_of = ranged-is;
        by_augmentation_of = augmented-is;
        by_sharing_of = shared-is;
        positions_after = positions_are w told cursors;
        moves_after = moves_are w told cursors;
        range_joined = joined_is w ranged ranged-is;
        augmentation_joined = joined_is w augmented augmented-is;
        sharing_joined = joined_is w shared shared-is;
        few_moves = λ ok c h. moves-few ms told (moves_are w told cursors) one_way c h;
        one_way = λ ok. one_way;
      }
