-- At which of the rising thresholds all of a run is looked up, and at which nothing.
use mathlib.Core.Bool.{Bool, true, false}
use mathlib.Core.List.{List}
use mathlib.Core.Path.{◌≡◌, sym, ap, ◌∙◌}
use Prim.Native.Nat.{ℕ, suc, ◌+◌, ◌-◌, ◌*◌, ◌≤◌, ◌<◌}
use native.Mathlib.Decide.{dec_le}
use native.Mathlib.Omega.{arith}
use lib.ListN.{length, get_or}
use Rattle.model.specs.Location.{at_first, at_second}
use Rattle.edge_pair.proofs.Laws.Totals.{Running, running-from, running-next, running-rest}
use Rattle.edge_pair.specs.Totals.{Added, Changed}
use Rattle.edge_pair.specs.Ways.{to_end_of}
use Rattle.edge_pair.specs.declared.edges.EdgePair.{EdgePair}
use Rattle.count_augmentation.specs.LookUp.{stored_last, looked_part, looked_up_by}
use Rattle.count_augmentation.specs.Thresholds.{Parted, whole_from_of, some_from_of, Spread}
use Rattle.count_augmentation.proofs.Laws.Reach.{whole-up, part_up, nothing-up}

-- from that threshold on the reaches from both ends cover an edge of length q, and below it they do not
covers : (q u v t : ℕ) → whole_from_of q u v ≤ t → q < (suc t - u) + (suc t - v)
covers q u v t h = go (dec_le u t) (dec_le v t)
  where
    go : Dec (u ≤ t) → Dec (v ≤ t) → q < (suc t - u) + (suc t - v)
    go (yes l) (yes m) = omega arith
    go (yes l) (no m) = omega arith
    go (no l) (yes m) = omega arith
    go (no l) (no m) = absurd (omega arith)

not-covers : (q u v t : ℕ) → t < whole_from_of q u v → (suc t - u) + (suc t - v) ≤ q
not-covers q u v t h = go (dec_le u t) (dec_le v t)
  where
    go : Dec (u ≤ t) → Dec (v ≤ t) → (suc t - u) + (suc t - v) ≤ q
    go (yes l) (yes m) = omega arith
    go (yes l) (no m) = omega arith
    go (no l) (yes m) = omega arith
    go (no l) (no m) = omega arith

-- that threshold is not below the one from which on anything is reached
some_first : (own : Bool) (q u v : ℕ) → some_from_of own u v ≤ whole_from_of q u v
unfolding some_from_of
some_first true q u v = omega arith
some_first false q u v = omega arith

pub spread : {w : EdgePair} {ts : List ℕ} {x u v a b to from : ℕ} (ys near_first near-second : List ℕ) → u ≡ to_end_of w at_first x → v ≡ to_end_of w at_second x → a ≡ whole_from_of w.length2 u v → b ≡ some_from_of w.same u v → Parted ts a to → Parted ts b from → Spread w ts x ys near_first near-second from to
spread {w} {ts} {x} {u} {v} {a} {b} {to} {from} ys near_first near-second eu ev ea eb whole some =
    record {
      in_order = order (dec_le from to);
      nothing = λ k h. nothing-up w (get_or ts k 0) x ys near_first near-second (least k h);
      parts = λ k h l. part_up w (get_or ts k 0) x ys near_first near-second (rw (← eu, ← ev) (not-covers w.length2 u v (get_or ts k 0) (rw (← ea) (whole.before k l))));
      all = λ k h l. whole-up w (get_or ts k 0) x ys near_first near-second (rw (← eu, ← ev) (covers w.length2 u v (get_or ts k 0) (rw (← ea) (whole.not_below.after k h l))));
    }
  where
    order : Dec (from ≤ to) → from ≤ to
    order (yes h) = h
    order (no h) = absurd (omega (arith, some_first w.same w.length2 u v, ea, eb, some.before to (omega arith), whole.not_below.after to (omega arith) (omega (arith, some.not_below.within))))

    least : (k : ℕ) → k < from → get_or ts k 0 < some_from_of w.same (to_end_of w at_first x) (to_end_of w at_second x)
    least k h = rw (← eu, ← ev, ← eb) (some.before k h)

-- the thresholds from one place on: so far the numbers of m events have been added, the last of them to all that follow
pub record Adding (w : EdgePair) (ts : List ℕ) (x : ℕ) (ys near_first near-second : List ℕ) (m from to : ℕ) (old : List ℕ) (k last : ℕ) (new : List ℕ) : Type 0 where
  pub begun : from ≤ k
  pub within : k ≤ to
  pub running : Running k last (λ j. m * looked_up_by w (get_or ts j 0) x ys near_first near-second) old new

module _ {w : EdgePair} {ts : List ℕ} {x : ℕ} {ys near_first near-second : List ℕ} {from to : ℕ} (at : Spread w ts x ys near_first near-second from to) where
  pub adding-begins : (m : ℕ) (old : List ℕ) → Adding w ts x ys near_first near-second m from to old from 0 old
  adding-begins m old =
      record {
        begun = omega arith;
        within = at.in_order;
        running = running-from from _ old (λ j h. rw (at.nothing j h) (omega arith));
      }

  pub adding-next : {m k last next found : ℕ} {old mid new : List ℕ} → Adding w ts x ys near_first near-second m from to old k last mid → k < to → found ≡ looked_part w (get_or ts k 0) x ys near_first near-second → next ≡ m * found → Changed k last next mid new → Adding w ts x ys near_first near-second m from to old (k + 1) next new
  adding-next {m} {k} {last} {next} {found} so_far h is e changed =
      let one : suc k ≡ k + 1 = omega arith in
      record {
        begun = omega (arith, so_far.begun);
        within = omega arith;
        running = rw one at (running-next so_far.running changed (e ∙ ap (λ (n : ℕ). m * n) (is ∙ sym (at.parts k so_far.begun h))));
      }

  pub adding-ends : {m k last rest all : ℕ} {old mid new : List ℕ} → Adding w ts x ys near_first near-second m from to old k last mid → to ≤ k → all ≡ stored_last near_first → rest ≡ m * all → Changed to last rest mid new → Added (length ts) (λ j. m * looked_up_by w (get_or ts j 0) x ys near_first near-second) old new
  adding-ends {m} {k} so_far h is e changed =
      let end : k ≡ to = omega (arith, so_far.within) in
      running-rest (length ts) (rw end at so_far.running) changed (λ j l n. ap (λ (i : ℕ). m * i) (at.all j l n ∙ sym is) ∙ sym e)
