-- The pairs of two runs within one threshold: a row is counted from its front, and the events at one offset together.
use mathlib.Core.Bool.{Bool, true, false}
use Rattle.std.specs.Int.{from_bool}
use mathlib.Core.List.{List}
use mathlib.Core.Path.{◌≡◌, refl, ap, ◌∙◌}
use Prim.Native.Nat.{ℕ, ◌+◌, ◌*◌, ◌≤◌, ◌<◌}
use native.Mathlib.Nat.{mul-le-mul}
use native.Mathlib.Omega.{arith}
use lib.Dec.{leb}
use lib.ListN.{length, get_or}
use Rattle.model.specs.Counting.{sum_below, one_if, count_if}
use Rattle.model.specs.Limits.{max_events}
use Rattle.model.proofs.Laws.Counting.{sum-below-cong, count-cong}
use Rattle.model.proofs.Laws.Equals.{sum-equals}
use Rattle.edge_pair.specs.Within.{reached_pairs}
use Rattle.edge_pair.specs.declared.edges.EdgePair.{EdgePair}
use Rattle.range_query.specs.Metres.{metres_between}
use Rattle.range_query.proofs.Laws.Pairs.{metres-reached}
use Rattle.range_query.proofs.Laws.Parted.{Parted, behind, parted-many, parted-first, parted-equals}

-- the number of a test's answer
pub number-of : (b : Bool) → from_bool b ≡ one_if b
unfolding one_if
number-of true = refl
number-of false = refl

-- the pairs of the first i events are counted
pub record PairsCounted (t : ℕ) (w : EdgePair) (xs ys : List ℕ) (total i : ℕ) : Type 0 where
  pub counted : total ≡ sum_below i (λ j. count_if (λ y. leb (metres_between w (get_or xs j 0) y) t) ys)
  pub few : total ≤ i * max_events

-- those of so many events at one offset are few enough
pub equals-few : (n : ℕ) {r m : ℕ} → m ≤ max_events → r ≤ m → n * r ≤ n * max_events
equals-few n {r} few h = mul-le-mul {m₁ = r} {m₂ = max_events} (omega arith) (omega arith)

module _ (t : ℕ) (w : EdgePair) (xs ys : List ℕ) where
  pub pairs-begin : PairsCounted t w xs ys 0 0
  unfolding sum_below
  pairs-begin = record { counted = refl; few = omega arith }

  pub pairs-onward : {rest equals next : List ℕ} {total r : ℕ} → length ys ≤ max_events → PairsCounted t w xs ys total (behind xs rest) → Parted xs rest equals next → r ≡ count_if (λ y. leb (metres_between w (get_or equals 0 0) y) t) ys → r ≤ length ys → PairsCounted t w xs ys (total + length equals * r) (behind xs next)
  pairs-onward {rest} {equals} {next} {total} {r} few-ys so_far parted e few =
      record {
        counted =
            rw (sum-equals (λ x. count_if (λ y. leb (metres_between w x y) t) ys) (parted-equals parted), parted-many parted, ← parted-first parted)
            (omega (arith, so_far.counted, ap (λ (n : ℕ). length equals * n) e));
        few = omega (arith, so_far.few, parted-many parted, equals-few (length equals) few-ys few, (parted-equals parted).further);
      }

  pub pairs-counted : {total i : ℕ} → t < 4294967296 → PairsCounted t w xs ys total i → i ≡ length xs → total ≡ reached_pairs t w xs ys
  unfolding reached_pairs
  pairs-counted {i = i} small so_far h =
      so_far.counted
      ∙ ap (λ (n : ℕ). sum_below n (λ j. count_if (λ y. leb (metres_between w (get_or xs j 0) y) t) ys)) h
      ∙ sum-below-cong (length xs) _ _ (λ j l. count-cong _ _ ys (metres-reached t small w (get_or xs j 0)))
