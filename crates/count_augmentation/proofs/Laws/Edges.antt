-- A laid-out set stored edge by edge: the events of an edge are a part of the list.
use mathlib.Core.List.{List, ◌++◌}
use mathlib.Core.Path.{◌≡◌, refl, sym, ap, ap₂, ◌∙◌}
use Prim.Native.Nat.{ℕ, suc, pred, ◌+◌, ◌-◌, ◌≤◌, ◌<◌}
use native.Mathlib.Decide.{dec_lt}
use native.Mathlib.Omega.{arith}
use borrow.Author.Tests.{lt-ltb, le-ltb, le-leb, lt-leb}
use borrow.Rule.Slice.PartMut.{put_mid, take_put}
use lib.ListN.{length, get_or, take, drop, length-take, length-drop, length-append}
use lib.Seq.{get_or-take, get_or-drop, take_at, drop_at, length-take-le}
use Rattle.model.proofs.Laws.Equals.{Equals}
use Rattle.model.proofs.Laws.Pieces.{part, part_length, part_at}
use Rattle.model.proofs.Laws.Stretch.{before-edge, through-edge, having-part, rise-by-one}
use Rattle.model.specs.Events.{having}
use Rattle.model.specs.Limits.{max_events}
use Rattle.count_augmentation.specs.Events.{LaidOut, EventsStored}
use Rattle.edge_pair.specs.Offsets.{Ordered, OnEdge}
use Rattle.count_augmentation.specs.Storing.{NumbersStored, at_most, at_least}
use Rattle.count_augmentation.proofs.Laws.Places.{count-before, stored-first, stored-second}

-- a part that has been put back
pub put-part : (a k : ℕ) (l part : List ℕ) → a ≤ length l → length part ≡ k → take k (drop a (put_mid a k l part)) ≡ part
put-part a k l part h e =
    ap (take k) (drop_at (take a l) (part ++ drop k (drop a l)) a (length-take-le a l h)) ∙ take_at part (drop k (drop a l)) k e

-- it is as long as it was, for the whole is
pub put-length : (from to : ℕ) (l part : List ℕ) → from ≤ to → to ≤ length l → length (put_mid from (to - from) l part) ≡ length l → length part ≡ to - from
put-length from to l part up within e =
    omega (arith, simp (length-append, length-take, length-drop) at e)

-- what stands in front of it, and in it
put-before : (a k : ℕ) (l new : List ℕ) (i : ℕ) → a ≤ length l → i < a → get_or (put_mid a k l new) i 0 ≡ get_or l i 0
put-before a k l new i h u =
    sym (get_or-take a (put_mid a k l new) i 0 u) ∙ ap (λ (r : List ℕ). get_or r i 0) (take_put a k l new h) ∙ get_or-take a l i 0 u

put-inside : (a k : ℕ) (l new : List ℕ) (i : ℕ) → a ≤ length l → length new ≡ k → i < k → get_or (put_mid a k l new) (a + i) 0 ≡ get_or new i 0
put-inside a k l new i h e u =
    sym (get_or-take k (drop a (put_mid a k l new)) i 0 u ∙ get_or-drop a (put_mid a k l new) i 0)
    ∙ ap (λ (r : List ℕ). get_or r i 0) (put-part a k l new h e)

-- the events from one place up to before another are cut out, all within the lists
pub record RunCut (xs first second : List ℕ) (from to : ℕ) : Type 0 where
  pub in_order : from ≤ to
  pub in_offsets : to ≤ length xs
  pub in_first : to ≤ length first
  pub in_second : to ≤ length second
  pub few : to ≤ max_events

-- the events in front of a place are stored, and the rest lie on other edges
pub record StoredUpTo (es xs first₀ second₀ : List ℕ) (from : ℕ) (first second : List ℕ) : Type 0 where
  pub within : from ≤ length es
  pub first-long : length first ≡ length first₀
  pub second-long : length second ≡ length second₀
  pub apart : (i j : ℕ) → i < from → from ≤ j → j < length es → get_or es i 0 < get_or es j 0
  pub events : EventsStored es xs from first second

pub nothing_stored : (es xs first second : List ℕ) → StoredUpTo es xs first second 0 first second
nothing_stored es xs first second =
    record {
      within = omega arith;
      first-long = refl;
      second-long = refl;
      apart = λ i j h. absurd (omega arith);
      events = record { first_at_of = λ k h. absurd (omega arith); second_at = λ k h. absurd (omega arith) };
    }

pub all-events : {es xs first₀ second₀ first second : List ℕ} {from : ℕ} → StoredUpTo es xs first₀ second₀ from first second → length es ≤ from → EventsStored es xs (length es) first second
all-events {es} {from = from} so_far h =
    let end : from ≡ length es = omega (arith, so_far.within) in rw end at so_far.events

-- a turn: the events from one place up to before another
module _ {es xs first₀ second₀ : List ℕ} (laid : LaidOut es xs) (first_room_of : length first₀ ≡ length es) (second_room_of : length second₀ ≡ length es)
    {from : ℕ} {first second : List ℕ} (so_far : StoredUpTo es xs first₀ second₀ from first second) {to : ℕ} (run : Equals es from to) where
  -- later events lie on later edges
  beyond : (k : ℕ) → to ≤ k → k < length es → get_or es from 0 < get_or es k 0
  beyond k h l =
      omega (arith, laid.edges_rise from to (omega (arith, run.further)) (omega arith), laid.edges_rise to k h l, run.ends (omega arith))

  before-is : before-edge (get_or es from 0) es ≡ from
  before-is =
      count-before _ es from so_far.within
      (λ k l. lt-ltb _ _ (so_far.apart k from l (omega arith) (omega (arith, run.further, run.within))))
      (λ k l m. le-ltb (get_or es k 0) (get_or es from 0) (laid.edges_rise from k l m))

  through-is : through-edge (get_or es from 0) es ≡ to
  through-is =
      count-before _ es to run.within
      (λ k l. le-leb (get_or es k 0) (get_or es from 0) (omega (arith, laid.edges_rise k (pred to) (omega arith) (omega (arith, run.within)), run.same (pred to) (omega (arith, run.further)) (omega arith))))
      (λ k l m. lt-leb (get_or es k 0) (get_or es from 0) (beyond k l m))

  -- what lies on the edge is the part
  on-edge-part : having (get_or es from 0) es xs ≡ part from to xs
  on-edge-part =
      having-part (get_or es from 0) es xs laid.same_length laid.edges_rise ∙ ap₂ (λ (a b : ℕ). part a b xs) before-is through-is

  long : length (part from to xs) ≡ to - from
  long = part_length from to xs (omega (arith, run.within, laid.same_length))

  rising : Ordered (part from to xs)
  rising = record { in_order = rise-by-one (part from to xs) (λ k h. step k (omega (arith, long))) }
    where
      step : (k : ℕ) → suc k < to - from → get_or (part from to xs) k 0 ≤ get_or (part from to xs) (suc k) 0
      step k h =
          let next : from + suc k ≡ suc (from + k) = omega arith in
          let inside : suc (from + k) < length es = omega (arith, run.within) in
          let one = run.same (from + k) (omega arith) (omega arith) in
          let other = run.same (suc (from + k)) (omega arith) (omega arith) in
          rw (part_at from to k xs (omega arith), part_at from to (suc k) xs h, next) (laid.offsets_rise (from + k) inside (one ∙ sym other))

  pub edge-cut : RunCut xs first second from to
  edge-cut =
      record {
        in_order = omega (arith, run.further);
        in_offsets = omega (arith, run.within, laid.same_length);
        in_first = omega (arith, run.within, so_far.first-long);
        in_second = omega (arith, run.within, so_far.second-long);
        few = omega (arith, run.within, laid.few);
      }

  -- no offset of the part is beyond the last
  abbrev last : ℕ
  last = get_or (part from to xs) (pred (to - from)) 0

  up-to-last : OnEdge last (part from to xs)
  up-to-last =
      record { on = λ k h. rising.in_order k (pred (to - from)) (omega (arith, long)) (omega (arith, long, run.further)) }

  -- one list of numbers, whichever end it is for
  module _ (count : List ℕ → ℕ → ℕ) (near new : List ℕ) (fits : to ≤ length near) (kept : length (put_mid from (to - from) near new) ≡ length near)
      (old-at : (k : ℕ) → k < from → get_or near k 0 ≡ count (having (get_or es k 0) es xs) (get_or xs k 0))
      (new-at : (i : ℕ) → i < length (part from to xs) → get_or new i 0 ≡ count (part from to xs) (get_or (part from to xs) i 0)) where
    inside-at : (i : ℕ) → i < to - from → get_or (put_mid from (to - from) near new) (from + i) 0 ≡ count (having (get_or es (from + i) 0) es xs) (get_or xs (from + i) 0)
    inside-at i h =
        put-inside from (to - from) near new i (omega arith) (put-length from to near new (omega (arith, run.further)) fits kept) h
        ∙ new-at i (omega (arith, long))
        ∙ ap₂ count (sym on-edge-part ∙ ap (λ (e : ℕ). having e es xs) (sym (run.same (from + i) (omega arith) (omega arith)))) (part_at from to i xs h)

    numbers-at : (k : ℕ) → k < to → get_or (put_mid from (to - from) near new) k 0 ≡ count (having (get_or es k 0) es xs) (get_or xs k 0)
    numbers-at k h = go (dec_lt k from)
      where
        go : Dec (k < from) → get_or (put_mid from (to - from) near new) k 0 ≡ count (having (get_or es k 0) es xs) (get_or xs k 0)
        go (yes l) = put-before from (to - from) near new k (omega (arith, run.further)) l ∙ old-at k l
        go (no l) =
            let on : from + (k - from) ≡ k = omega arith in
            rw on at (inside-at (k - from) (omega arith))

  pub edge-stored : (pf ps : List ℕ) → length (put_mid from (to - from) first pf) ≡ length first → length (put_mid from (to - from) second ps) ≡ length second → (Ordered (part from to xs) → length (part from to first) ≡ length (part from to xs) → length (part from to second) ≡ length (part from to xs) → length (part from to xs) ≤ max_events → (p : ℕ) → OnEdge p (part from to xs) → NumbersStored p (part from to xs) pf ps) → StoredUpTo es xs first₀ second₀ to (put_mid from (to - from) first pf) (put_mid from (to - from) second ps)
  edge-stored pf ps hf hs stored =
      let cut = edge-cut in
      let numbers = stored rising (part_length from to first cut.in_first ∙ sym long) (part_length from to second cut.in_second ∙ sym long) (omega (arith, long, cut.few)) last up-to-last in
      record {
        within = run.within;
        first-long = hf ∙ so_far.first-long;
        second-long = hs ∙ so_far.second-long;
        apart = λ i j h l m. go i j h l m (dec_lt i from);
        events = record {
          first_at_of = numbers-at at_most first pf cut.in_first hf so_far.events.first_at_of (stored-first last (part from to xs) pf ps up-to-last numbers);
          second_at = numbers-at at_least second ps cut.in_second hs so_far.events.second_at (stored-second last (part from to xs) pf ps up-to-last numbers);
        };
      }
    where
      go : (i j : ℕ) → i < to → to ≤ j → j < length es → Dec (i < from) → get_or es i 0 < get_or es j 0
      go i j h l m (yes u) = so_far.apart i j u (omega (arith, run.further)) m
      go i j h l m (no u) = omega (arith, beyond j l m, run.same i (omega arith) h)
