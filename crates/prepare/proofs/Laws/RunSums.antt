-- The pair count of events cut into runs: with each event beside itself, the sum over all pairs of runs.
use mathlib.Core.Bool.{Bool}
use mathlib.Core.List.{List, [], ◌∷◌, map}
use mathlib.Core.Path.{◌≡◌, refl, sym, ap, ap₂, ◌∙◌}
use Prim.Native.Nat.{ℕ, zero, suc, ◌+◌, ◌*◌, ◌≤◌, ◌<◌}
use native.Mathlib.Omega.{arith}
use lib.ListN.{length, get_or}
use Rattle.model.proofs.Laws.Counting.{sum_over, sum-below-cong, sum-below-add, sum-below-list, sum-over-cong, sum-over-append, count-append, count-cong, count_map, count-sum, one-if-one}
use Rattle.model.proofs.Laws.Location.{location-symmetric}
use Rattle.model.proofs.Laws.PairCount.{close, pair-count-total}
use Rattle.model.proofs.Laws.Pieces.{part, pieces}
use Rattle.model.specs.Counting.{sum_below, count_below_of, count_if, one_if}
use Rattle.model.specs.Distance.{within}
use Rattle.model.specs.Events.{Event, event, event_location}
use Rattle.model.specs.Network.{Network, EndsAreNodes}
use Rattle.model.specs.PairCount.{pair_count, event_distance, is_pair}

-- the sum of two functions over a list
sum-over-add : {A : Type 0} (f g : A → ℕ) (xs : List A) → sum_over (λ x. f x + g x) xs ≡ sum_over f xs + sum_over g xs
unfolding sum_over
sum-over-add f g [] = omega arith
sum-over-add f g (x ∷ xs) = omega (arith, sum-over-add f g xs)

sum-over-zero : {A : Type 0} (xs : List A) → sum_over (λ x. 0) xs ≡ 0
unfolding sum_over
sum-over-zero [] = refl
sum-over-zero (x ∷ xs) = omega (arith, sum-over-zero xs)

-- the two sums may be taken in either turn
pub sum-over-below : {A : Type 0} (n : ℕ) (f : ℕ → A → ℕ) (xs : List A) → sum_over (λ x. sum_below n (λ b. f b x)) xs ≡ sum_below n (λ b. sum_over (f b) xs)
unfolding sum_below
sum-over-below zero f xs = sum-over-zero xs
sum-over-below (suc n) f xs =
    sum-over-add (λ x. sum_below n (λ b. f b x)) (f n) xs ∙ ap (λ (m : ℕ). m + sum_over (f n) xs) (sum-over-below n f xs)

-- a sum over what h makes of the elements
sum-over-map : {A B : Type 0} (g : B → ℕ) (h : A → B) (xs : List A) → sum_over g (map h xs) ≡ sum_over (λ x. g (h x)) xs
unfolding sum_over
sum-over-map g h [] = refl
sum-over-map g h (x ∷ xs) = ap (λ (n : ℕ). g (h x) + n) (sum-over-map g h xs)

-- a sum of so many terms, each at most m
pub sum-below-most : (m n : ℕ) (f : ℕ → ℕ) → ((i : ℕ) → i < n → f i ≤ m) → sum_below n f ≤ m * n
unfolding sum_below
sum-below-most m zero f h = omega arith
sum-below-most m (suc n) f h = omega (arith, sum-below-most m n f (λ i l. h i (omega arith)), h n (omega arith))

-- pairs of an element of the one list and one of the other that pass a test may be counted from either list
pub count-either : {A B : Type 0} (test : A → B → Bool) (xs : List A) (ys : List B) → sum_over (λ x. count_if (test x) ys) xs ≡ sum_over (λ y. count_if (λ x. test x y) xs) ys
unfolding sum_over count_if
count-either test [] ys = sym (sum-over-zero ys)
count-either test (x ∷ xs) ys =
    ap₂ ◌+◌ (count-sum (test x) ys) (count-either test xs ys)
    ∙ sym (sum-over-add (λ y. one_if (test x y)) (λ y. count_if (λ z. test z y) xs) ys)

-- the sum over all pairs of numbers below n, of something that is the same both ways
pub sum-halves : (f : ℕ → ℕ → ℕ) (n : ℕ) → ((a b : ℕ) → a < n → b < n → f a b ≡ f b a) → sum_below n (λ a. sum_below n (f a)) ≡ sum_below n (λ a. f a a + 2 * sum_below a (f a))
unfolding sum_below
sum-halves f zero both = refl
sum-halves f (suc n) both =
    let inner = sum-halves f n (λ a b h l. both a b (omega arith) (omega arith)) in
    let rows = sum-below-add n (λ a. sum_below n (f a)) (λ a. f a n) in
    let column : sum_below n (λ a. f a n) ≡ sum_below n (f n) = sum-below-cong n (λ a. f a n) (f n) (λ a h. both a n (omega arith) (omega arith)) in
    omega arith

module _ (net : Network) (t : ℕ) where
  -- how many pairs of an event of the one list and an event of the other lie within t
  abbrev pub close_pairs : List Event → List Event → ℕ
  close_pairs es fs = sum_over (λ e. close net t e fs) es

  -- the same for two runs, each on one edge, by their offsets
  pub close-offsets : (e f : ℕ) (xs ys : List ℕ) → close_pairs (map (event e) xs) (map (event f) ys) ≡ sum_below (length xs) (λ i. count_if (λ y. within (event_distance net (event e (get_or xs i 0)) (event f y)) t) ys)
  close-offsets e f xs ys =
      sum-over-map (λ g. close net t g (map (event f) ys)) (event e) xs
      ∙ sum-over-cong _ _ xs (λ x. count_map (λ g. within (event_distance net (event e x) g) t) (event f) ys)
      ∙ sym (sum-below-list 0 (λ x. count_if (λ y. within (event_distance net (event e x) (event f y)) t) ys) xs)

  -- the same from either list
  pub close-either : EndsAreNodes net → (es fs : List Event) → close_pairs es fs ≡ close_pairs fs es
  unfolding event_distance
  close-either ends es fs =
      count-either (λ e f. within (event_distance net e f) t) es fs
      ∙ sum-over-cong _ _ fs (λ f. count-cong _ _ es (λ e. ap (λ d. within d t) (location-symmetric net ends (event_location net e) (event_location net f))))

  -- runs from number r on, n of them
  pub run-pairs : (es : List Event) (bound : ℕ → ℕ) (r n : ℕ) → ((k : ℕ) → k < n → bound (r + k) ≤ bound (suc (r + k))) → pair_count net (part (bound r) (bound (r + n)) es) t + length (part (bound r) (bound (r + n)) es) ≡ sum_below n (λ a. sum_below n (λ b. close_pairs (part (bound (r + a)) (bound (suc (r + a))) es) (part (bound (r + b)) (bound (suc (r + b))) es)))
  unfolding sum_over count_if
  run-pairs es bound r n up =
      let whole : List Event = part (bound r) (bound (r + n)) es in
      let run : ℕ → List Event = λ k. part (bound (r + k)) (bound (suc (r + k))) es in
      pair-count-total net whole t
      ∙ pieces (sum_over (λ e. close net t e whole)) refl (sum-over-append (λ e. close net t e whole)) es bound r n up
      ∙ sum-below-cong n _ _ (λ a l.
      sum-over-cong (λ e. close net t e whole) (λ e. sum_below n (λ b. close net t e (run b))) (run a) (λ e. pieces (count_if (λ f. within (event_distance net e f) t)) refl (count-append (λ f. within (event_distance net e f) t)) es bound r n up)
      ∙ sum-over-below n (λ b e. close net t e (run b)) (run a))

-- so many events have at most the square of their number of pairs
pub pairs-most : (net : Network) (es : List Event) (t m : ℕ) → length es ≤ m → pair_count net es t ≤ m * length es
unfolding pair_count count_below_of
pairs-most net es t m h = sum-below-most m (length es) _ (λ i l. omega (arith, sum-below-most 1 (length es) (λ j. one_if (is_pair net es t i j)) (λ j k. one-if-one (is_pair net es t i j))))
