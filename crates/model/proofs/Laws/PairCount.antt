-- The pair count: what it counts, that it grows with the threshold, and that the order of the events does not matter.
use mathlib.Core.Bool.{Bool, true, not, ◌&&◌}
use mathlib.Core.List.{List, [], ◌∷◌, Memᴰ}
use mathlib.Core.Path.{◌≡◌, refl, sym, ap, ap₂, ◌∙◌}
use Prim.Native.Nat.{ℕ, ◌+◌, ◌≤◌, ◌<◌}
use native.Mathlib.Omega.{arith}
use borrow.Author.Tests.{le-leb, ne_eqb, eqb-false, not-true}
use lib.Dec.{eqb}
use lib.ListN.{length}
use Rattle.model.specs.Counting.{sum_below, one_if, count_below_of, count_if, numbers_from, NoRepeats, Rearranged}
use Rattle.model.specs.Network.{Network, EndsAreNodes}
use Rattle.model.specs.Distance.{within}
use Rattle.model.specs.Events.{Event, event, event_location}
use Rattle.model.specs.PairCount.{event_at, event_distance, is_pair, pair_count, Pair, Joined, CountsJoined}
use Rattle.model.proofs.Laws.Counting.{sum_over, sum-below-cong, sum-below-mono, sum-below-add, sum-below-one, sum-below-list, sum-over-cong, sum-over-rearranged, count-below-cong, count-below-mono, count-but-one, count-below-list, count-rearranged, count-numbers}
use Rattle.model.proofs.Laws.Lists.{rearranged-length, numbers-only, numbers-hold, numbers-no-repeats, passing, passing-length, passing-only, passing-holds, passing-no-repeats}
use Rattle.model.proofs.Laws.Refusal.{both_true}
use Rattle.model.proofs.Laws.Rows.{rows, rows-only, rows-hold, rows-length, rows-no-repeats}
use Rattle.model.proofs.Laws.Distance.{le_refl}
use Rattle.model.proofs.Laws.Within.{within-monotone}
use Rattle.model.proofs.Laws.Least.{within-walk, walk-within}
use Rattle.model.proofs.Laws.Location.{location-distance, location-self}

-- the pair of two positions
pair : ℕ → ℕ → Pair
pair i j = record { i = i; j = j }

module _ (n : ℕ) (test : ℕ → ℕ → Bool) where
  -- the positions below n that pass with i
  row : ℕ → List ℕ
  row i = passing (test i) (numbers_from 0 n)

  -- the pairs of positions below n that pass
  pairs_below : List Pair
  pairs_below = rows pair row n

  -- no pair stands there twice
  pairs-no-repeats : NoRepeats pairs_below
  unfolding pairs_below row pair
  pairs-no-repeats =
      rows-no-repeats
      pair
      row
      (λ i j a b e. ap (λ p. p.i) e)
      (λ i a b e. ap (λ p. p.j) e)
      (λ i. passing-no-repeats (test i) (numbers-no-repeats 0 n))
      n

  -- its pairs pass
  pairs-only : (p : Pair) → Memᴰ p pairs_below → (p.i < n) × (p.j < n) × (test p.i p.j ≡ true)
  unfolding pairs_below row pair
  pairs-only p m =
      let r = rows-only pair row n m in
      let s = passing-only (test r.number) (numbers_from 0 n) r.held in
      let bounds = numbers-only 0 n s.0 in
      let same-i : r.number ≡ p.i = ap (λ q. q.i) r.made in
      let same-j : r.element ≡ p.j = ap (λ q. q.j) r.made in
      (omega arith, omega arith, sym (ap₂ test same-i same-j) ∙ s.1)

  -- every pair that passes is there
  pairs-hold : (p : Pair) → p.i < n → p.j < n → test p.i p.j ≡ true → Memᴰ p pairs_below
  unfolding pairs_below row pair
  pairs-hold p l m e =
      rows-hold
      pair
      row
      n
      p.i
      l
      (passing-holds (test p.i) (numbers_from 0 n) (numbers-hold p.j 0 n (omega arith) (omega arith)) e)

  -- as many as are counted
  pairs-length : length pairs_below ≡ sum_below n (λ i. count_below_of n (test i))
  unfolding pairs_below row
  pairs-length =
      rows-length pair row n ∙ sum-below-cong n _ _ (λ i l. passing-length (test i) (numbers_from 0 n) ∙ count-numbers (test i) 0 n ∙ count-below-cong n _ _ (λ j m. ap (test i) (omega arith)))

module _ (net : Network) where
  -- how many events of a list lie within t of e
  abbrev pub close : ℕ → Event → List Event → ℕ
  close t e es = count_if (λ f. within (event_distance net e f) t) es

  -- an event lies within any threshold of itself
  self-within : (e : Event) (t : ℕ) → within (event_distance net e e) t ≡ true
  unfolding event_distance within
  self-within e t = simp (location-self net (event_location net e)) (le-leb 0 t (omega arith))

  -- with each event counted beside itself too: for each event, how many lie within the threshold of it
  pub pair-count-total : (es : List Event) (t : ℕ) → pair_count net es t + length es ≡ sum_over (λ e. close t e es) es
  unfolding pair_count is_pair
  pair-count-total es t =
      let n : ℕ = length es in
      let near : ℕ → ℕ → Bool = λ i j. within (event_distance net (event_at es i) (event_at es j)) t in
      let others : ℕ → ℕ = λ i. count_below_of n (λ j. not (eqb i j) && near i j) in
      let each : sum_below n (λ i. others i + 1) ≡ sum_below n (λ i. count_below_of n (near i)) =
      sum-below-cong n _ _ (λ i l. count-but-one n i (near i) l (self-within (event_at es i) t))
      in
      let listed : sum_below n (λ i. count_below_of n (near i)) ≡ sum_over (λ e. close t e es) es =
      sum-below-cong n _ _ (λ i l. count-below-list (event 0 0) (λ f. within (event_distance net (event_at es i) f) t) es)
      ∙ sum-below-list (event 0 0) (λ e. close t e es) es
      in
      omega (arith, each, listed, sum-below-add n others (λ i. 1), sum-below-one n)

  -- the pair count does not depend on the order of the events
  pub count-order-free : (es fs : List Event) (t : ℕ) → Rearranged es fs → pair_count net es t ≡ pair_count net fs t
  count-order-free es fs t r =
      let total : sum_over (λ e. close t e es) es ≡ sum_over (λ e. close t e fs) fs =
      sum-over-cong _ _ es (λ e. count-rearranged _ r) ∙ sum-over-rearranged _ r
      in
      omega (arith, pair-count-total es t, pair-count-total fs t, rearranged-length r)

  -- a pair at a threshold is one at a greater
  pair-grows : (es : List Event) {t t' : ℕ} → t ≤ t' → (i j : ℕ) → is_pair net es t i j ≡ true → is_pair net es t' i j ≡ true
  unfolding is_pair
  pair-grows es h i j e =
      let b = both_true (not (eqb i j)) _ e in
      simp (b.0, within-monotone (le_refl (event_distance net (event_at es i) (event_at es j))) h b.1)

  -- the pair count grows with the threshold
  pub count-grows : (es : List Event) (t t' : ℕ) → t ≤ t' → pair_count net es t ≤ pair_count net es t'
  unfolding pair_count is_pair
  count-grows es t t' h =
      sum-below-mono (length es) _ _ (λ i l. count-below-mono (length es) _ _ (λ j m e. pair-grows es h i j e))

  -- no pairs among fewer than two events
  pub count-few : (es : List Event) (t : ℕ) → length es ≤ 1 → pair_count net es t ≡ 0
  unfolding pair_count is_pair sum_below count_below_of one_if
  count-few [] t l = refl
  count-few (e ∷ []) t l = refl
  count-few (e ∷ f ∷ es) t l = absurd (omega arith)

  -- the positions that pass are joined by a short walk
  pair-joined : EndsAreNodes net → (es : List Event) (t : ℕ) (p : Pair) → p.i < length es → p.j < length es → is_pair net es t p.i p.j ≡ true → Joined net es t p
  unfolding is_pair event_distance
  pair-joined ok es t p l m e =
      let b = both_true (not (eqb p.i p.j)) _ e in
      let w = within-walk (location-distance net ok (event_location net (event_at es p.i)) (event_location net (event_at es p.j))) t b.1 in
      record {
        i_in = l;
        j_in = m;
        different = eqb-false p.i p.j (not-true _ b.0);
        long = w.0;
        walk = w.1;
        short = w.2;
      }

  -- the positions that a short walk joins pass
  joined-pair : EndsAreNodes net → (es : List Event) (t : ℕ) (p : Pair) → Joined net es t p → is_pair net es t p.i p.j ≡ true
  unfolding is_pair event_distance
  joined-pair ok es t p h =
      let w : within (event_distance net (event_at es p.i) (event_at es p.j)) t ≡ true =
      walk-within (location-distance net ok _ _) h.long t h.walk h.short
      in
      simp (ne_eqb p.i p.j h.different, w)

  -- the pair count is the number of pairs of different positions that a short walk joins
  pub counts-joined : EndsAreNodes net → (es : List Event) (t : ℕ) → CountsJoined net es t (pair_count net es t)
  unfolding pair_count
  counts-joined ok es t =
      record {
        pairs = pairs_below (length es) (is_pair net es t);
        no_repeats = pairs-no-repeats (length es) (is_pair net es t);
        all_joined = λ p m.
            let b = pairs-only (length es) (is_pair net es t) p m in
            pair-joined ok es t p b.0 b.1 b.2;
        holds_all = λ p h. pairs-hold (length es) (is_pair net es t) p h.i_in h.j_in (joined-pair ok es t p h);
        as_many = pairs-length (length es) (is_pair net es t);
      }
