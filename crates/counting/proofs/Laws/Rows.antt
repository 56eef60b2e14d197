-- Entries doubled one after the other, a row of counts written from totals, and the totals of a set after each of its two turns.
use Rattle.std.proofs.Common.{◌≡◌, ℕ, zero, suc, ◌+◌, ◌-◌, ◌*◌, ◌%◌, ◌<◌, ◌≤◌, min, Bool, true, false, eqb, List, [], ◌∷◌, map, length, get_or, set, replicate, sym, refl, ap, ◌∙◌, arith, length-set, get_or-set_other, get_or-set_same}
use native.Mathlib.Decide.{ℕ_discrete}
use lib.ListN.{length-map, length-replicate}
use Rattle.model.proofs.Laws.Counting.{sum-below-zero}
use Rattle.model.proofs.Laws.Lists.{all-entries, map_at}
use Rattle.model.proofs.Laws.Zeros.{cleared}
use Rattle.model.specs.Counting.{sum_below}
use Rattle.model.specs.Limits.{max_thresholds}
use Rattle.model.specs.Network.{Network}
use Rattle.edge_pair.proofs.Laws.Totals.{same_of, same_then, same-both, same_rest, same-small}
use Rattle.edge_pair.specs.Totals.{wrap, Same64, total_at, Added}
use Rattle.prepare.specs.RunPairs.{all_pairs, other_pairs, other_row}
use Rattle.counting.proofs.Laws.Each.{both-are-all}
use Rattle.counting.specs.Rows.{max_count, Doubled, RowWritten, RowFits}
use Rattle.counting.specs.Runs.{each_pairs}

-- the first k entries are doubled
pub record DoubledTo (k : ℕ) (old new : List ℕ) : Type 0 where
  pub same_length : length new ≡ length old
  pub before : (j : ℕ) → j < k → Same64 (get_or new j 0) (get_or old j 0 + get_or old j 0)
  pub behind : (j : ℕ) → k ≤ j → get_or new j 0 ≡ get_or old j 0

pub one-doubled : {k : ℕ} {old new : List ℕ} (v : ℕ) → DoubledTo k old new → k < length old → v ≡ (get_or new k 0 + get_or new k 0) % wrap → DoubledTo (k + 1) old (set new k v)
one-doubled {k} {old} {new} v d h e =
    record {
      same_length = simp length-set d.same_length;
      before = λ j l. go j l (ℕ_discrete j k);
      behind = λ j l. get_or-set_other new k j v 0 (λ same. omega arith) ∙ d.behind j (omega arith);
    }
  where
    go : (j : ℕ) → j < k + 1 → Dec (j ≡ k) → Same64 (get_or (set new k v) j 0) (get_or old j 0 + get_or old j 0)
    go j l (yes same) =
        rw same (same_then (same_of (get_or-set_same new k v 0 (omega (arith, d.same_length)))) (same_then (same_rest e) (same_of (omega (arith, d.behind k (omega arith))))))
    go j l (no other) = same_then (same_of (get_or-set_other new k j v 0 other)) (d.before j (omega arith))

pub all-doubled : {k : ℕ} {old new : List ℕ} → DoubledTo k old new → length new ≤ k → Doubled old new
unfolding total_at sum_below
all-doubled {k} {old} {new} d h =
    record { same_length = d.same_length; at = λ j l. sums (suc j) (omega (arith, d.same_length)) }
  where
    sums : (n : ℕ) → n ≤ k → Same64 (sum_below n (λ j. get_or new j 0)) (2 * sum_below n (λ j. get_or old j 0))
    sums zero l = same_of refl
    sums (suc n) l = same_then (same-both (sums n (omega arith)) (d.before n l)) (same_of (omega arith))

-- the first k counts are written, and the total is that of the entries before
pub record RowTo (totals : List ℕ) (events k total : ℕ) (old row : List ℕ) : Type 0 where
  pub same_length : length row ≡ length old
  pub sum : Same64 total (sum_below k (λ j. get_or totals j 0))
  pub before : (j : ℕ) → j < k → (n : ℕ) → n < wrap → Same64 (total_at totals j) n → get_or row j 0 ≡ min (n - events) max_count

pub row-begins : (totals : List ℕ) (events : ℕ) (row : List ℕ) → RowTo totals events 0 0 row row
unfolding sum_below
row-begins totals events row = record { same_length = refl; sum = same_of refl; before = λ j h. absurd (omega arith) }

pub row_more : {totals : List ℕ} {events k total : ℕ} {old row : List ℕ} (next v : ℕ) → RowTo totals events k total old row → k < length old → next ≡ (total + get_or totals k 0) % wrap → next < wrap → v ≡ min (next - events) max_count → RowTo totals events (k + 1) next old (set row k v)
unfolding total_at sum_below
row_more {totals} {events} {k} {total} {old} {row} next v w h e small count =
    record {
      same_length = simp length-set w.same_length;
      sum = same_then sums (same_of (ap (λ (n : ℕ). sum_below n (λ j. get_or totals j 0)) {x = suc k} {y = k + 1} (omega arith)));
      before = λ j l. go j l (ℕ_discrete j k);
    }
  where
    sums : Same64 next (sum_below (suc k) (λ j. get_or totals j 0))
    sums = same_then (same_rest e) (same-both w.sum (same_of refl))

    go : (j : ℕ) → j < k + 1 → Dec (j ≡ k) → (n : ℕ) → n < wrap → Same64 (total_at totals j) n → get_or (set row k v) j 0 ≡ min (n - events) max_count
    go j l (yes same) n fits alike =
        let is : next ≡ n = same-small small fits (same_then sums (rw same at alike)) in
        rw same (get_or-set_same row k v 0 (omega (arith, w.same_length)) ∙ count ∙ ap (λ (m : ℕ). min (m - events) max_count) is)
    go j l (no other) n fits alike = get_or-set_other row k j v 0 other ∙ w.before j (omega arith) n fits alike

pub row_done : {totals : List ℕ} {events k total : ℕ} {old row : List ℕ} → RowTo totals events k total old row → length row ≤ k → RowWritten totals events (length old) row
row_done w h = record { long = w.same_length; at = λ j l. w.before j (omega (arith, w.same_length)) }

-- the pairs of n runs from run r on that have been added after so many turns: each turn doubles them first, and the second takes each
-- run with itself
unfoldable pub pairs_after : Network → List ℕ → List ℕ → List ℕ → ℕ → ℕ → ℕ → ℕ → ℕ
pairs_after net es xs bounds t r n zero = 0
pairs_after net es xs bounds t r n (suc turn) = 2 * pairs_after net es xs bounds t r n turn + each_pairs net es xs bounds (eqb turn 1) t r n

-- the totals after so many turns
pub record TurnsTo (net : Network) (es xs bounds ts : List ℕ) (r q turn : ℕ) (totals : List ℕ) : Type 0 where
  pub most : turn ≤ 2
  pub long : length totals ≡ suc max_thresholds
  pub at : (k : ℕ) → k < length ts → Same64 (total_at totals k) (pairs_after net es xs bounds (get_or ts k 0) r (q - r) turn)

pub no-turn : {net : Network} {es xs bounds ts : List ℕ} {r q : ℕ} → TurnsTo net es xs bounds ts r q 0 (replicate (suc max_thresholds) 0)
unfolding total_at pairs_after
no-turn =
    record {
      most = omega arith;
      long = length-replicate {A = ℕ} (suc max_thresholds) 0;
      at = λ k h. same_of (sum-below-zero (suc k) _ (λ j l. cleared (suc max_thresholds) refl j));
    }

-- the second of the two turns takes each run with itself
pub which-turn : (turn : ℕ) → turn < 2 → get_or (false ∷ true ∷ []) turn false ≡ eqb turn 1
which-turn zero h = refl
which-turn (suc zero) h = refl
which-turn (suc (suc turn)) h = absurd (omega arith)

-- the row of a set
module _ {net : Network} {es xs bounds ts : List ℕ} {r q turn : ℕ} {totals : List ℕ} (so_far : TurnsTo net es xs bounds ts r q turn totals) where
  pub one-turn : {own : Bool} {twice new : List ℕ} → length ts ≤ max_thresholds → turn < 2 → own ≡ eqb turn 1 → Doubled totals twice → Added (length ts) (λ k. each_pairs net es xs bounds own (get_or ts k 0) r (q - r)) twice new → TurnsTo net es xs bounds ts r q (turn + 1) new
  unfolding pairs_after
  one-turn {own} {twice} {new} few h which doubled added = record { most = omega arith; long = added.same_length ∙ doubled.same_length ∙ so_far.long; at = go }
    where
      go : (k : ℕ) → k < length ts → Same64 (total_at new k) (pairs_after net es xs bounds (get_or ts k 0) r (q - r) (turn + 1))
      go k l =
          let one = so_far.at k l in
          let two = doubled.at k (omega (arith, so_far.long)) in
          let three = added.at k l (omega (arith, so_far.long, doubled.same_length)) in
          let on : turn + 1 ≡ suc turn = omega arith in
          rw (on, ← which) record {
            up = three.up + two.up + 2 * one.up;
            down = three.down + two.down + 2 * one.down;
            alike = omega (arith, one.alike, two.alike, three.alike);
          }

  module _ (fits : RowFits net es xs bounds ts r q) (over : 2 ≤ turn) {events : ℕ} (events-are : events ≡ get_or bounds q 0 - get_or bounds r 0) where
    total-is : (k : ℕ) → k < length ts → Same64 (total_at totals k) (all_pairs net es xs bounds (get_or ts k 0) r (q - r))
    unfolding pairs_after
    total-is k h =
        let done : turn ≡ 2 = omega (arith, so_far.most) in
        same_then (so_far.at k h) (same_of (rw done (omega (arith, both-are-all net es xs bounds (get_or ts k 0) r (q - r)))))

    total-small : (k : ℕ) → k < length ts → all_pairs net es xs bounds (get_or ts k 0) r (q - r) < wrap
    unfolding other_pairs
    total-small k h = let fit = fits.at k h in omega (arith, fit.small, fit.few)

    uncut : (k : ℕ) → k < length ts → min (all_pairs net es xs bounds (get_or ts k 0) r (q - r) - events) max_count ≡ other_pairs net es xs bounds (get_or ts k 0) r q
    unfolding other_pairs
    uncut k h = let fit = (fits.at k h).small in rw events-are (omega (arith, fit))

    pub row_is : {n : ℕ} {row : List ℕ} → n ≡ length ts → RowWritten totals events n row → row ≡ other_row net es xs bounds ts r q
    unfolding other_row
    row_is {n} {row} wide written =
        let others : ℕ → ℕ = λ t. other_pairs net es xs bounds t r q in
        let at : ℕ → ℕ = λ k. get_or (map others ts) k 0 in
        all-entries at row 0 n written.long (λ k h. written.at k h _ (total-small k (omega (arith, wide))) (total-is k (omega (arith, wide))) ∙ uncut k (omega (arith, wide)) ∙ sym (map_at others ts k (omega (arith, wide))) ∙ ap at (omega arith))
        ∙ sym (all-entries at (map others ts) 0 n (length-map ts others ∙ sym wide) (λ k h. ap at (omega arith)))
