-- Numbers stored run by run: a run that is put back leaves the others as they were.
use Rattle.std.proofs.Common.{◌≡◌, ℕ, suc, ◌+◌, ◌-◌, ◌<◌, ◌≤◌, List, length, get_or, take, drop, sym, ap, ◌∙◌, ⊎_elim, eq-or-lt_of_le, add-one, arith}
use borrow.Rule.Slice.PartMut.{put_mid, take_put, same_len_mid}
use Rattle.model.proofs.Laws.Pieces.{part_length, rise}
use Rattle.model.specs.Limits.{max_events}
use Rattle.prepare.proofs.Laws.RunEvents.{part-front}
use Rattle.prepare.specs.RunPairs.{part_of}
use Rattle.count_augmentation.proofs.Laws.Edges.{put-part, put-length}
use Rattle.count_augmentation.specs.Storing.{NumbersStored}
use Rattle.counting.specs.Runs.{RunStorable, RunsStorable, RunStored, RunsStored}
use Rattle.edge_pair.specs.Offsets.{Ordered, OnEdge}

-- a part in front of it
kept-part : (a k : ℕ) (l part : List ℕ) (b m : ℕ) → a ≤ length l → b + m ≤ a → take m (drop b (put_mid a k l part)) ≡ take m (drop b l)
kept-part a k l part b m h u =
    sym (part-front m b a (put_mid a k l part) u) ∙ ap (λ (r : List ℕ). take m (drop b r)) (take_put a k l part h) ∙ part-front m b a l u

-- the first k runs are stored, in lists as long as they were
pub record StoredTo (xs bounds first₀ second₀ : List ℕ) (k : ℕ) (first second : List ℕ) : Type 0 where
  pub first-long : length first ≡ length first₀
  pub second-long : length second ≡ length second₀
  pub runs : RunsStored xs bounds first second k

-- run k is cut out: from one place up to before another, all within the lists
pub record RunCut (xs first second : List ℕ) (from to : ℕ) : Type 0 where
  pub in_order : from ≤ to
  pub in_offsets : to ≤ length xs
  pub in_first : to ≤ length first
  pub in_second : to ≤ length second
  pub few : to ≤ max_events
  pub rising : Ordered (take (to - from) (drop from xs))

-- what storing one run takes
module _ {xs first second : List ℕ} {from to : ℕ} (cut : RunCut xs first second from to) where
  pub run-few : length (take (to - from) (drop from xs)) ≤ max_events
  run-few = rw (part_length from to xs cut.in_offsets) (omega (arith, cut.few))

  pub as_long : (near : List ℕ) → to ≤ length near → length (take (to - from) (drop from near)) ≡ length (take (to - from) (drop from xs))
  as_long near h = part_length from to near h ∙ sym (part_length from to xs cut.in_offsets)

-- a turn of the loop over runs
module _ {xs bounds first₀ second₀ : List ℕ} {q : ℕ} (asked : RunsStorable xs bounds first₀ second₀ q) {k : ℕ} {first second : List ℕ} (so_far : StoredTo xs bounds first₀ second₀ k first second) (high : k < q) where
  abbrev bound : ℕ → ℕ
  bound i = get_or bounds i 0

  abbrev long : ℕ
  long = bound (suc k) - bound k

  run : RunStorable xs bounds first₀ second₀ k
  run = asked.at k high

  in_first : bound (suc k) ≤ length first
  in_first = omega (arith, run.in_first, so_far.first-long)

  in_second : bound (suc k) ≤ length second
  in_second = omega (arith, run.in_second, so_far.second-long)

  pub run-cut : (from to : ℕ) → from ≡ get_or bounds k 0 → to ≡ get_or bounds (k + 1) 0 → RunCut xs first second from to
  unfolding part_of
  run-cut from to begins ends =
      rw (begins, ends, add-one k)
      record {
        in_order = run.begins;
        in_offsets = run.in_offsets;
        in_first = in_first;
        in_second = in_second;
        few = run.few;
        rising = run.rising;
      }

  -- earlier runs end before it
  earlier : (i : ℕ) → i < k → bound (suc i) ≤ bound k
  earlier i h =
      let end : suc i + (k - suc i) ≡ k = omega arith in
      rw end at (rise bound (suc i) (k - suc i) (λ j u. (asked.at (suc i + j) (omega arith)).begins))

  module _ (pf ps : List ℕ) (hf : length pf ≡ long) (hs : length ps ≡ long) where
    first-in : bound k ≤ length first
    first-in = omega (arith, run.begins, in_first)

    second-in : bound k ≤ length second
    second-in = omega (arith, run.begins, in_second)

    first-kept : length (put_mid (bound k) long first pf) ≡ length first
    first-kept = same_len_mid (bound k) long first pf (hf ∙ sym (part_length (bound k) (bound (suc k)) first in_first))

    second-kept : length (put_mid (bound k) long second ps) ≡ length second
    second-kept = same_len_mid (bound k) long second ps (hs ∙ sym (part_length (bound k) (bound (suc k)) second in_second))

    newest : ((p : ℕ) → OnEdge p (part_of bounds k xs) → NumbersStored p (part_of bounds k xs) pf ps) → RunStored xs bounds (put_mid (bound k) long first pf) (put_mid (bound k) long second ps) k
    unfolding part_of
    newest stored =
        record {
          in_first = rw first-kept in_first;
          in_second = rw second-kept in_second;
          stored = λ p on. rw (put-part (bound k) long first pf first-in hf, put-part (bound k) long second ps second-in hs) (stored p on);
        }

    kept : (i : ℕ) → i < k → RunStored xs bounds (put_mid (bound k) long first pf) (put_mid (bound k) long second ps) i
    unfolding part_of
    kept i u =
        let old = so_far.runs.at i u in
        let before = earlier i u in
        let up = (asked.at i (omega arith)).begins in
        record {
          in_first = rw first-kept old.in_first;
          in_second = rw second-kept old.in_second;
          stored = λ p on. rw (kept-part (bound k) long first pf (bound i) (bound (suc i) - bound i) first-in (omega arith), kept-part (bound k) long second ps (bound i) (bound (suc i) - bound i) second-in (omega arith)) (old.stored p on);
        }

    one-stored : ((p : ℕ) → OnEdge p (part_of bounds k xs) → NumbersStored p (part_of bounds k xs) pf ps) → StoredTo xs bounds first₀ second₀ (suc k) (put_mid (bound k) long first pf) (put_mid (bound k) long second ps)
    one-stored stored =
        record {
          first-long = first-kept ∙ so_far.first-long;
          second-long = second-kept ∙ so_far.second-long;
          runs = record { at = λ i h. ⊎_elim (λ e. rw e (newest stored)) (λ u. kept i u) (eq-or-lt_of_le {n = i} {m = k} (omega arith)) };
        }

  -- run k has been stored in its part of each list
  pub run-stored : (from to : ℕ) → from ≡ get_or bounds k 0 → to ≡ get_or bounds (k + 1) 0 → (pf ps : List ℕ) → length (put_mid from (to - from) first pf) ≡ length first → length (put_mid from (to - from) second ps) ≡ length second → ((p : ℕ) → OnEdge p (take (to - from) (drop from xs)) → NumbersStored p (take (to - from) (drop from xs)) pf ps) → StoredTo xs bounds first₀ second₀ (k + 1) (put_mid from (to - from) first pf) (put_mid from (to - from) second ps)
  unfolding part_of
  run-stored from to begins ends pf ps =
      rw (begins, ends, add-one k)
      (λ (hf : length (put_mid (bound k) long first pf) ≡ length first) (hs : length (put_mid (bound k) long second ps) ≡ length second) stored.
      one-stored pf ps (put-length (bound k) (bound (suc k)) first pf run.begins in_first hf) (put-length (bound k) (bound (suc k)) second ps run.begins in_second hs) stored)
