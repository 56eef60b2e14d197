-- The runs of a set, each with itself or with the earlier ones, added one after the other; and both together are all pairs of the set.
use Rattle.std.proofs.Common.{◌≡◌, ℕ, suc, ◌+◌, ◌-◌, ◌*◌, ◌≤◌, Bool, true, false, List, length, get_or, refl, ap, ◌∙◌, arith}
use Rattle.model.proofs.Laws.Counting.{sum-below-cong, sum-below-add}
use Rattle.model.specs.Counting.{sum_below}
use Rattle.model.specs.Network.{Network}
use Rattle.edge_pair.proofs.Laws.Totals.{added_none, added_then, added-as}
use Rattle.edge_pair.specs.Totals.{Added}
use Rattle.prepare.specs.RunPairs.{run_pairs, pairs_with, all_pairs}
use Rattle.counting.specs.Runs.{partners, each_pairs}

-- those that a run is taken with
pub partners-rise : (own : Bool) (r a : ℕ) → r ≤ a → partners own r a ≤ partners own a (suc a)
unfolding partners
partners-rise true r a h = omega arith
partners-rise false r a h = h

pub partners-end : (own : Bool) (a : ℕ) → partners own a (suc a) ≤ suc a
unfolding partners
partners-end true a = omega arith
partners-end false a = omega arith

-- the runs from r up to before a have been taken
pub record EachTo (net : Network) (es xs bounds ts : List ℕ) (own : Bool) (r a : ℕ) (old new : List ℕ) : Type 0 where
  pub low : r ≤ a
  pub added : Added (length ts) (λ k. each_pairs net es xs bounds own (get_or ts k 0) r (a - r)) old new

module _ (net : Network) (es xs bounds : List ℕ) (own : Bool) (r : ℕ) where
  each_none : (t : ℕ) → 0 ≡ each_pairs net es xs bounds own t r (r - r)
  unfolding each_pairs sum_below
  each_none t = let none : r - r ≡ 0 = omega arith in rw none refl

  each_next : (t a : ℕ) → r ≤ a → each_pairs net es xs bounds own t r (a - r) + pairs_with net es xs bounds t (partners own r a) a (partners own a (suc a) - partners own r a) ≡ each_pairs net es xs bounds own t r (a + 1 - r)
  unfolding each_pairs sum_below
  each_next t a h =
      let further : a + 1 - r ≡ suc (a - r) = omega arith in
      let on : r + (a - r) ≡ a = omega arith in
      rw (further, on) refl

module _ {net : Network} {es xs bounds ts : List ℕ} {own : Bool} {r : ℕ} where
  pub none-taken : (l : List ℕ) → EachTo net es xs bounds ts own r r l l
  none-taken l = record { low = omega arith; added = added-as (λ k h. each_none net es xs bounds own r (get_or ts k 0)) (added_none (length ts) l) }

  pub one-taken : {a : ℕ} {old mid new : List ℕ} (from to : ℕ) → from ≡ partners own r a → to ≡ partners own a (suc a) → EachTo net es xs bounds ts own r a old mid → Added (length ts) (λ k. pairs_with net es xs bounds (get_or ts k 0) from a (to - from)) mid new → EachTo net es xs bounds ts own r (a + 1) old new
  one-taken {a} from to e f so_far more =
      record {
        low = omega (arith, so_far.low);
        added = added-as (λ k h. ap (λ (n : ℕ). each_pairs net es xs bounds own (get_or ts k 0) r (a - r) + n) (rw (e, f) refl) ∙ each_next net es xs bounds own r (get_or ts k 0) a so_far.low) (added_then so_far.added more);
      }

-- each run with itself, and twice with each earlier one
module _ (net : Network) (es xs bounds : List ℕ) (t r : ℕ) where
  with_itself : (a : ℕ) → pairs_with net es xs bounds t (partners true r a) a (partners true a (suc a) - partners true r a) ≡ run_pairs net es xs bounds t a a
  unfolding partners pairs_with sum_below
  with_itself a =
      let one : suc a - a ≡ 1 = omega arith in
      let here : a + 0 ≡ a = omega arith in
      rw (one, here) (omega arith)

  with-earlier : (j : ℕ) → pairs_with net es xs bounds t (partners false r (r + j)) (r + j) (partners false (r + j) (suc (r + j)) - partners false r (r + j)) ≡ pairs_with net es xs bounds t r (r + j) j
  unfolding partners
  with-earlier j = let many : r + j - r ≡ j = omega arith in rw many refl

  twice : (n : ℕ) (f : ℕ → ℕ) → 2 * sum_below n f ≡ sum_below n (λ j. 2 * f j)
  twice n f = omega (arith, sum-below-add n f f, sum-below-cong n (λ j. f j + f j) (λ j. 2 * f j) (λ j h. omega arith))

  pub both-are-all : (n : ℕ) → 2 * each_pairs net es xs bounds false t r n + each_pairs net es xs bounds true t r n ≡ all_pairs net es xs bounds t r n
  unfolding each_pairs all_pairs
  both-are-all n =
      let earlier = sum-below-cong n _ (λ j. pairs_with net es xs bounds t r (r + j) j) (λ j h. with-earlier j) in
      let own = sum-below-cong n _ (λ j. run_pairs net es xs bounds t (r + j) (r + j)) (λ j h. with_itself (r + j)) in
      omega (arith, earlier, own, twice n (λ j. pairs_with net es xs bounds t r (r + j) j), sum-below-add n (λ j. run_pairs net es xs bounds t (r + j) (r + j)) (λ j. 2 * pairs_with net es xs bounds t r (r + j) j))
