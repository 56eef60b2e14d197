-- The pairs of two runs: those counted by their buckets are those within the thresholds.
use mathlib.Core.Bool.{Bool, true, false, cond, ◌&&◌, ◌||◌}
use mathlib.Core.List.{List, [], ◌∷◌}
use mathlib.Core.Path.{◌≡◌, refl, sym, ap, ◌∙◌}
use Prim.Native.Nat.{ℕ, ◌+◌, ◌-◌, ◌*◌, ◌<◌, min}
use native.Mathlib.Nat.{mul-add, mul-one, mul-zero}
use native.Mathlib.Omega.{arith}
use lib.Dec.{leb}
use lib.ListN.{length, get_or, take}
use Rattle.std.proofs.lemmas.List.{take_more}
use Rattle.model.specs.Counting.{sum_below, one_if, count_below_of, count_if}
use Rattle.model.specs.Distance.{least, within, difference}
use Rattle.model.specs.Distance as distance
use Rattle.model.specs.Limits.{max_thresholds}
use Rattle.model.specs.Location.{at_first, at_second}
use Rattle.model.proofs.Laws.Counting.{sum-next, sum-below-cong, count-cong, count-append}
use Rattle.model.proofs.Laws.Within.{within-least}
use Rattle.edge_pair.specs.Totals.{Added, Changed}
use Rattle.edge_pair.specs.Ways.{to_end_of}
use Rattle.edge_pair.specs.Within.{is_reached, reached_pairs}
use Rattle.edge_pair.specs.declared.edges.EdgePair.{EdgePair}
use Rattle.edge_pair.proofs.Laws.Arrival.{reached-by-ends}
use Rattle.edge_pair.proofs.Laws.Totals.{added_none, added_then, added-as, changed-added}
use Rattle.range_query.specs.Ladder.{found_in, bucket_in, LadderOf}
use Rattle.range_query.specs.Metres.{by_ends_of, metres_between, tallied}
use Rattle.range_query.proofs.Laws.Lookup.{bucket-found, bucket-right}

-- the lesser of two is within t if one of them is
lesser-within : (m n t : ℕ) → leb (min m n) t ≡ leb m t || leb n t
unfolding within least
lesser-within m n t = within-least (distance.metres m) (distance.metres n) t

-- the stretch along the edge counts on one edge alone
stretch : (b : Bool) (m n t : ℕ) → leb (cond b (min m n) m) t ≡ (leb m t || (b && leb n t))
stretch true m n t = lesser-within m n t
stretch false m n t = or-false (leb m t)
  where
    or-false : (b : Bool) → b ≡ (b || false)
    or-false true = refl
    or-false false = refl

-- between two edges there is no other way than by the ends
pub metres-by-ends : (w : EdgePair) (x y : ℕ) → w.same ≡ false → by_ends_of w x y ≡ metres_between w x y
unfolding metres_between
metres-by-ends w x y two = rw two refl

-- the metres are within a threshold exactly when the place is reached
pub metres-reached : (t : ℕ) → t < 4294967296 → (w : EdgePair) (x y : ℕ) → leb (metres_between w x y) t ≡ is_reached t w x y
unfolding metres_between by_ends_of
metres-reached t h w x y =
    stretch w.same (by_ends_of w x y) (difference x y) t
    ∙ ap (λ (b : Bool). b || (w.same && leb (difference x y) t)) (lesser-within (to_end_of w at_first x + y) (to_end_of w at_second x + (w.length2 - y)) t)
    ∙ sym (reached-by-ends t h w x y)

-- the pairs up to the bucket of a threshold are those within it
tallied-reached : {ts ladder : List ℕ} → LadderOf ts ladder → (w : EdgePair) (xs ys : List ℕ) (k : ℕ) → k < length ts → tallied ladder w xs ys k ≡ reached_pairs (get_or ts k 0) w xs ys
unfolding tallied reached_pairs
tallied-reached {ts} {ladder} l w xs ys k h =
    sum-below-cong (length xs) _ _ (λ i b. count-cong _ _ ys (λ y. bucket-right l (metres_between w (get_or xs i 0) y) k h ∙ metres-reached (get_or ts k 0) (l.small k h) w (get_or xs i 0) y))

pub reached : {ts ladder old new : List ℕ} (w : EdgePair) (xs ys : List ℕ) → LadderOf ts ladder → Added max_thresholds (tallied ladder w xs ys) old new → Added (length ts) (λ k. reached_pairs (get_or ts k 0) w xs ys) old new
reached w xs ys l a =
    added-as (tallied-reached l w xs ys) (record { same_length = a.same_length; at = λ k h. a.at k (omega (arith, l.few)) })

-- so many if a test holds
pub many-if : (b : Bool) (m : ℕ) → cond b m 0 ≡ m * one_if b
unfolding one_if
many-if true m = sym (mul-one m)
many-if false m = sym (mul-zero m)

-- one element more
pub count-next : (test : ℕ → Bool) (ys : List ℕ) (j : ℕ) → j < length ys → count_if test (take (j + 1) ys) ≡ count_if test (take j ys) + one_if (test (get_or ys j 0))
unfolding count_if
count-next test ys j h =
    omega (arith, ap (count_if test) (take_more ys j 0 h), count-append test (take j ys) (get_or ys j 0 ∷ []))

-- a row: the offsets of the other run that f gives a bucket, each counted many times
module _ (n many : ℕ) (f : ℕ → ℕ) (ys : List ℕ) where
  pub row-none : (totals : List ℕ) → Added n (λ k. many * count_if (λ y. leb (f y) k) (take 0 ys)) totals totals
  unfolding count_if
  row-none totals = added-as (λ k h. sym (mul-zero many)) (added_none n totals)

  pub row-onward : {old mid new : List ℕ} {place : ℕ} (j : ℕ) → j < length ys → place ≡ f (get_or ys j 0) → Added n (λ k. many * count_if (λ y. leb (f y) k) (take j ys)) old mid → Changed place 0 many mid new → Added n (λ k. many * count_if (λ y. leb (f y) k) (take (j + 1) ys)) old new
  row-onward {place = place} j h e a c = added-as (λ k l. next k) (added_then a (changed-added n c))
    where
      next : (k : ℕ) → many * count_if (λ y. leb (f y) k) (take j ys) + cond (leb place k) many 0 ≡ many * count_if (λ y. leb (f y) k) (take (j + 1) ys)
      next k =
          rw (e, many-if (leb (f (get_or ys j 0)) k) many, count-next (λ y. leb (f y) k) ys j h)
          (sym (mul-add many (count_if (λ y. leb (f y) k) (take j ys)) (one_if (leb (f (get_or ys j 0)) k))))

  -- the same of the offsets at the places below one, also behind the end
  pub row_more : {old mid new : List ℕ} {place : ℕ} (j : ℕ) → place ≡ f (get_or ys j 0) → Added n (λ k. many * count_below_of j (λ i. leb (f (get_or ys i 0)) k)) old mid → Changed place 0 many mid new → Added n (λ k. many * count_below_of (j + 1) (λ i. leb (f (get_or ys i 0)) k)) old new
  unfolding count_below_of
  row_more {place = place} j e a c = added-as (λ k h. next k) (added_then a (changed-added n c))
    where
      next : (k : ℕ) → many * sum_below j (λ i. one_if (leb (f (get_or ys i 0)) k)) + cond (leb place k) many 0 ≡ many * sum_below (j + 1) (λ i. one_if (leb (f (get_or ys i 0)) k))
      next k =
          ap (λ (m : ℕ). many * sum_below j (λ i. one_if (leb (f (get_or ys i 0)) k)) + m) (many-if (leb place k) many ∙ ap (λ (b : ℕ). many * one_if (leb b k)) e)
          ∙ sym (mul-add many (sum_below j (λ i. one_if (leb (f (get_or ys i 0)) k))) (one_if (leb (f (get_or ys j 0)) k)))
          ∙ ap (λ (m : ℕ). many * m) (sym (sum-next (λ i. one_if (leb (f (get_or ys i 0)) k)) j))

-- the buckets, in place of what is found as g has it
pub row-found : (ladder : List ℕ) (many : ℕ) (f g : ℕ → ℕ) (ys : List ℕ) {old new : List ℕ} → ((d : ℕ) → found_in ladder d ≡ g d) → Added max_thresholds (λ k. many * count_if (λ y. leb (g (f y)) k) ys) old new → Added max_thresholds (λ k. many * count_if (λ y. leb (bucket_in ladder (f y)) k) ys) old new
row-found ladder many f g ys is a =
    added-as (λ k h. ap (λ (m : ℕ). many * m) (count-cong _ _ ys (λ y. sym (bucket-found ladder (f y) k h ∙ ap (λ (b : ℕ). leb b k) (is (f y)))))) a
