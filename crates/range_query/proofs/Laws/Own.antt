-- The pairs of a run with itself: the events at one offset with each other, and twice with those before them.
use mathlib.Core.Bool.{Bool, cond}
use mathlib.Core.List.{List}
use mathlib.Core.Path.{◌≡◌, sym, ap, ◌∙◌}
use Prim.Native.Nat.{ℕ, zero, suc, ◌+◌, ◌-◌, ◌*◌, ◌≤◌, ◌<◌, min}
use native.Mathlib.Nat.{mul-add, add-mul, mul_assoc, mul-zero}
use native.Mathlib.Omega.{arith}
use lib.Dec.{leb}
use lib.ListN.{length, get_or, take}
use lib.Seq.{get_or-take, length-take-le}
use Rattle.model.specs.Counting.{sum_below, one_if, count_below_of, count_if}
use Rattle.model.specs.Distance.{difference}
use Rattle.model.specs.Limits.{max_thresholds}
use Rattle.model.proofs.Laws.Counting.{sum-below-cong, sum-below-add, count-below-cong, count-below-list}
use Rattle.model.proofs.Laws.Equals.{Equals, sum-equals}
use Rattle.edge_pair.specs.Edges.{code_between_of}
use Rattle.edge_pair.specs.Totals.{Added, Changed}
use Rattle.edge_pair.specs.Ways.{way, to_end_of}
use Rattle.edge_pair.specs.declared.edges.EdgePair.{EdgePair}
use Rattle.edge_pair.proofs.Laws.Totals.{added_none, added_then, added-as, changed-added}
use Rattle.range_query.specs.Ladder.{found_in, bucket_in}
use Rattle.range_query.specs.Metres.{by_ends_of, metres_between, Mirrored, tallied}
use Rattle.range_query.proofs.Laws.Lookup.{bucket-found}
use Rattle.range_query.proofs.Laws.Pairs.{many-if}
use Rattle.range_query.proofs.Laws.Parted.{Parted, behind, parted-many, parted-first, parted-equals}

-- by any two ends, and back, where the offsets x and y lie r and q before the second end
ends-mirrored : (x r y q a b c : ℕ) → min (min (x + a) (r + b) + y) (min (x + b) (r + c) + q) ≡ min (min (y + a) (q + b) + x) (min (y + b) (q + c) + r)
ends-mirrored x r y q a b c = omega arith

module _ {w : EdgePair} (mirrored : Mirrored w) where
  by-ends-mirrored : (x y : ℕ) → by_ends_of w x y ≡ by_ends_of w y x
  unfolding by_ends_of to_end_of code_between_of
  by-ends-mirrored x y =
      rw (mirrored.alike_long, mirrored.alike_codes)
      (ends-mirrored x (w.length2 - x) y (w.length2 - y) (way w.ff) (way w.sf) (way w.ss))

  -- two places are as far apart one way as the other
  metres-mirrored : (x y : ℕ) → metres_between w x y ≡ metres_between w y x
  unfolding metres_between difference
  metres-mirrored x y =
      ap (λ (m : ℕ). cond w.same (min m (difference x y)) m) (by-ends-mirrored x y)
      ∙ ap (λ (m : ℕ). cond w.same (min (by_ends_of w y x) m) (by_ends_of w y x)) {x = difference x y} {y = difference y x} (omega arith)

  metres-none : (x : ℕ) → metres_between w x x ≡ 0
  unfolding metres_between difference
  metres-none x = rw mirrored.one (omega arith)

sum-times : (m n : ℕ) (f : ℕ → ℕ) → sum_below n (λ i. m * f i) ≡ m * sum_below n f
unfolding sum_below
sum-times m zero f = sym (mul-zero m)
sum-times m (suc n) f = ap (λ (s : ℕ). s + m * f n) (sum-times m n f) ∙ sym (mul-add m (sum_below n f) (f n))

-- the ordered pairs of the first n events that pass a test
unfoldable pub square : (ℕ → ℕ → Bool) → List ℕ → ℕ → ℕ
square p xs n = sum_below n (λ i. count_below_of n (λ j. p (get_or xs i 0) (get_or xs j 0)))

-- a test that does not ask for their order
module _ (p : ℕ → ℕ → Bool) (turned : (x y : ℕ) → p x y ≡ p y x) (xs : List ℕ) where
  -- the events at one offset with each other, and those before them with each of these, both ways
  square-more : {from to : ℕ} → Equals xs from to → square p xs to ≡ square p xs from + (2 * (to - from)) * count_below_of from (λ j. p (get_or xs from 0) (get_or xs j 0)) + ((to - from) * (to - from)) * one_if (p (get_or xs from 0) (get_or xs from 0))
  unfolding count_below_of square
  square-more {from} {to} run =
      sum-below-cong to _ _ (λ i h. sum-equals (λ y. one_if (p (get_or xs i 0) y)) run)
      ∙ sum-equals (λ x. sum_below from (λ j. one_if (p x (get_or xs j 0))) + (to - from) * one_if (p x (get_or xs from 0))) run
      ∙ ap (λ (n : ℕ). n + (to - from) * (row + (to - from) * self)) before
      ∙ together (square p xs from) (to - from) row self
    where
      row : ℕ
      row = sum_below from (λ j. one_if (p (get_or xs from 0) (get_or xs j 0)))

      self : ℕ
      self = one_if (p (get_or xs from 0) (get_or xs from 0))

      before : sum_below from (λ i. sum_below from (λ j. one_if (p (get_or xs i 0) (get_or xs j 0))) + (to - from) * one_if (p (get_or xs i 0) (get_or xs from 0))) ≡ square p xs from + (to - from) * row
      before =
          sum-below-add from _ _
          ∙ ap (λ (n : ℕ). square p xs from + n) (sum-times (to - from) from _ ∙ ap (λ (n : ℕ). (to - from) * n) (sum-below-cong from _ _ (λ i h. ap one_if (turned (get_or xs i 0) (get_or xs from 0)))))

      together : (s m r o : ℕ) → (s + m * r) + m * (r + m * o) ≡ s + (2 * m) * r + (m * m) * o
      together s m r o = omega (arith, mul-add m r (m * o), twice m r, square-times m o)
        where
          twice : (m r : ℕ) → (2 * m) * r ≡ m * r + m * r
          twice m r = ap (λ (n : ℕ). n * r) {x = 2 * m} {y = m + m} (omega arith) ∙ add-mul m m r

          square-times : (m o : ℕ) → (m * m) * o ≡ m * (m * o)
          square-times m o = mul_assoc m m o

-- those of a part, and all of them
count-part : (p : ℕ → Bool) (xs : List ℕ) (n : ℕ) → n ≤ length xs → count_if p (take n xs) ≡ count_below_of n (λ j. p (get_or xs j 0))
count-part p xs n h =
    sym (count-below-list 0 p (take n xs))
    ∙ ap (λ (m : ℕ). count_below_of m (λ j. p (get_or (take n xs) j 0))) (length-take-le n xs h)
    ∙ count-below-cong n _ _ (λ j l. ap p (get_or-take n xs j 0 l))

square-all : (p : ℕ → ℕ → Bool) (xs : List ℕ) {n : ℕ} → n ≡ length xs → square p xs n ≡ sum_below (length xs) (λ i. count_if (p (get_or xs i 0)) xs)
unfolding square
square-all p xs e = ap (square p xs) e ∙ sum-below-cong (length xs) _ _ (λ i h. count-below-list 0 (p (get_or xs i 0)) xs)

-- the pairs whose metres fall in a bucket up to number k
abbrev pub up_to : List ℕ → EdgePair → ℕ → ℕ → ℕ → Bool
up_to ladder w k x y = leb (bucket_in ladder (metres_between w x y)) k

module _ (ladder : List ℕ) (w : EdgePair) (xs : List ℕ) where
  pub own-none : (totals : List ℕ) → Added max_thresholds (λ k. square (up_to ladder w k) xs 0) totals totals
  unfolding sum_below square
  own-none totals = added_none max_thresholds totals

  own-more : {from to place : ℕ} {old mid next new : List ℕ} → Mirrored w → Equals xs from to → place ≡ found_in ladder 0 → Added max_thresholds (λ k. square (up_to ladder w k) xs from) old mid → Added max_thresholds (λ k. (2 * (to - from)) * count_if (up_to ladder w k (get_or xs from 0)) (take from xs)) mid next → Changed place 0 ((to - from) * (to - from)) next new → Added max_thresholds (λ k. square (up_to ladder w k) xs to) old new
  own-more {from} {to} {place} mirrored run found a b c =
      added-as (λ k h. ap (λ (n : ℕ). square (up_to ladder w k) xs from + (2 * (to - from)) * n + cond (leb place k) ((to - from) * (to - from)) 0) (count-part (up_to ladder w k (get_or xs from 0)) xs from (omega (arith, run.further, run.within))) ∙ ap (λ (n : ℕ). square (up_to ladder w k) xs from + (2 * (to - from)) * count_below_of from (λ j. up_to ladder w k (get_or xs from 0) (get_or xs j 0)) + n) (selves k h) ∙ sym (square-more (up_to ladder w k) (turned k) xs run)) (added_then (added_then a b) (changed-added max_thresholds c))
    where
      turned : (k x y : ℕ) → up_to ladder w k x y ≡ up_to ladder w k y x
      turned k x y = ap (λ (d : ℕ). leb (bucket_in ladder d) k) (metres-mirrored mirrored x y)

      selves : (k : ℕ) → k < max_thresholds → cond (leb place k) ((to - from) * (to - from)) 0 ≡ ((to - from) * (to - from)) * one_if (up_to ladder w k (get_or xs from 0) (get_or xs from 0))
      selves k h =
          many-if (leb place k) ((to - from) * (to - from))
          ∙ ap (λ (b : Bool). ((to - from) * (to - from)) * one_if b) (ap (λ (d : ℕ). leb d k) found ∙ sym (bucket-found ladder 0 k h) ∙ ap (λ (d : ℕ). leb (bucket_in ladder d) k) (sym (metres-none mirrored (get_or xs from 0))))

  -- the events at one offset more
  pub own-parted : {rest equals next : List ℕ} {place : ℕ} {old mid last new : List ℕ} → Mirrored w → Parted xs rest equals next → place ≡ found_in ladder 0 → Added max_thresholds (λ k. square (up_to ladder w k) xs (behind xs rest)) old mid → Added max_thresholds (λ k. (2 * length equals) * count_if (up_to ladder w k (get_or equals 0 0)) (take (behind xs rest) xs)) mid last → Changed place 0 (length equals * length equals) last new → Added max_thresholds (λ k. square (up_to ladder w k) xs (behind xs next)) old new
  own-parted {last = last} mirrored parted found a b c =
      own-more {next = last} mirrored (parted-equals parted) found a (rw (parted-many parted, ← parted-first parted) b) (rw (parted-many parted) c)

  pub own-all : {n : ℕ} {old new : List ℕ} → n ≡ length xs → Added max_thresholds (λ k. square (up_to ladder w k) xs n) old new → Added max_thresholds (tallied ladder w xs xs) old new
  unfolding tallied
  own-all e a = added-as (λ k h. square-all (up_to ladder w k) xs e) a
