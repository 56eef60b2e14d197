-- Laws of sums and counts, below a bound and over a list.
use mathlib.Core.Bool.{Bool, true, false, not, ◌&&◌}
use mathlib.Core.List.{List, [], ◌∷◌, ◌++◌, map}
use mathlib.Core.Path.{◌≡◌, refl, sym, ap, ap₂, ◌∙◌}
use Prim.Native.Nat.{ℕ, zero, suc, ◌+◌, ◌≤◌, ◌<◌}
use native.Mathlib.Decide.{ℕ_discrete}
use native.Mathlib.Numerals.{add-one}
use native.Mathlib.Omega.{arith}
use borrow.Author.Tests.{eq-eqb, ne_eqb}
use lib.Dec.{eqb}
use lib.ListN.{length, get_or}
use Rattle.model.specs.Counting.{sum_below, one_if, count_below_of, count_if, numbers_from, Rearranged, nothing, keep, swap, chain}

-- the sum of f over the elements of a list
unfoldable pub sum_over : {A : Type 0} → (A → ℕ) → List A → ℕ
sum_over f [] = 0
sum_over f (x ∷ xs) = f x + sum_over f xs

-- a weaker test counts at least as much
pub one-if-mono : (a b : Bool) → (a ≡ true → b ≡ true) → one_if a ≤ one_if b
unfolding one_if
one-if-mono false false h = omega arith
one-if-mono false true h = omega arith
one-if-mono true b h = rw (h refl) (omega arith)

-- 1 at most
pub one-if-one : (b : Bool) → one_if b ≤ 1
unfolding one_if
one-if-one false = omega arith
one-if-one true = omega arith

-- sums below n of functions that agree below n are equal
pub sum-below-cong : (n : ℕ) (f g : ℕ → ℕ) → ((i : ℕ) → i < n → f i ≡ g i) → sum_below n f ≡ sum_below n g
unfolding sum_below
sum-below-cong zero f g h = refl
sum-below-cong (suc n) f g h = omega (arith, sum-below-cong n f g (λ i l. h i (omega arith)), h n (omega arith))

-- a sum below n grows with its terms
pub sum-below-mono : (n : ℕ) (f g : ℕ → ℕ) → ((i : ℕ) → i < n → f i ≤ g i) → sum_below n f ≤ sum_below n g
unfolding sum_below
sum-below-mono zero f g h = omega arith
sum-below-mono (suc n) f g h = omega (arith, sum-below-mono n f g (λ i l. h i (omega arith)), h n (omega arith))

-- the sum of two functions
pub sum-below-add : (n : ℕ) (f g : ℕ → ℕ) → sum_below n (λ i. f i + g i) ≡ sum_below n f + sum_below n g
unfolding sum_below
sum-below-add zero f g = omega arith
sum-below-add (suc n) f g = omega (arith, sum-below-add n f g)

-- one for each number below n
pub sum-below-one : (n : ℕ) → sum_below n (λ i. 1) ≡ n
unfolding sum_below
sum-below-one zero = refl
sum-below-one (suc n) = omega (arith, sum-below-one n)

-- a sum whose terms are all 0
pub sum-below-zero : (n : ℕ) (f : ℕ → ℕ) → ((i : ℕ) → i < n → f i ≡ 0) → sum_below n f ≡ 0
unfolding sum_below
sum-below-zero zero f h = refl
sum-below-zero (suc n) f h = omega (arith, sum-below-zero n f (λ i l. h i (omega arith)), h n (omega arith))

-- the last number apart
pub sum-next : (f : ℕ → ℕ) (n : ℕ) → sum_below (n + 1) f ≡ sum_below n f + f n
unfolding sum_below
sum-next f n = rw (add-one n)

-- a sum taken from its first term
pub sum-below-first : (n : ℕ) (f : ℕ → ℕ) → sum_below (suc n) f ≡ f 0 + sum_below n (λ i. f (suc i))
unfolding sum_below
sum-below-first zero f = omega arith
sum-below-first (suc n) f = omega (arith, sum-below-first n f)

-- counts below n of tests that agree below n are equal
pub count-below-cong : (n : ℕ) (f g : ℕ → Bool) → ((i : ℕ) → i < n → f i ≡ g i) → count_below_of n f ≡ count_below_of n g
unfolding count_below_of
count-below-cong n f g h = sum-below-cong n _ _ (λ i l. ap one_if (h i l))

-- a weaker test passes at least as many numbers below n
pub count-below-mono : (n : ℕ) (f g : ℕ → Bool) → ((i : ℕ) → i < n → f i ≡ true → g i ≡ true) → count_below_of n f ≤ count_below_of n g
unfolding count_below_of
count-below-mono n f g h = sum-below-mono n _ _ (λ i l. one-if-mono (f i) (g i) (h i l))

-- of the numbers below n that pass, all but i: one less, where i passes
pub count-but-one : (n i : ℕ) (test : ℕ → Bool) → i < n → test i ≡ true → count_below_of n (λ j. not (eqb i j) && test j) + 1 ≡ count_below_of n test
unfolding count_below_of sum_below one_if
count-but-one zero i test l e = omega arith
count-but-one (suc n) i test l e = go (ℕ_discrete i n) (λ m. count-but-one n i test m e)
  where
    go : Dec (i ≡ n) → (i < n → count_below_of n (λ j. not (eqb i j) && test j) + 1 ≡ count_below_of n test) → count_below_of (suc n) (λ j. not (eqb i j) && test j) + 1 ≡ count_below_of (suc n) test
    go (yes p) below =
        let same : count_below_of n (λ j. not (eqb i j) && test j) ≡ count_below_of n test =
        count-below-cong n _ _ (λ j m. ap (λ b. not b && test j) (ne_eqb i j (λ q. omega arith)))
        in
        let here : test n ≡ true = rw (← p) e in
        simp (eq-eqb i n p, here) (omega (arith, same))
    go (no p) below = simp (ne_eqb i n p) (omega (arith, below (omega arith)))

-- a sum below the length of a list, of what f makes of the elements
pub sum-below-list : {A : Type 0} (d : A) (f : A → ℕ) (xs : List A) → sum_below (length xs) (λ i. f (get_or xs i d)) ≡ sum_over f xs
unfolding sum_over sum_below
sum-below-list d f [] = refl
sum-below-list d f (x ∷ xs) = sum-below-first (length xs) (λ i. f (get_or (x ∷ xs) i d)) ∙ ap (λ n. f x + n) (sum-below-list d f xs)

module _ {A : Type 0} where
  -- sums over a list of functions that agree are equal
  pub sum-over-cong : (f g : A → ℕ) (xs : List A) → ((x : A) → f x ≡ g x) → sum_over f xs ≡ sum_over g xs
  unfolding sum_over
  sum-over-cong f g [] h = refl
  sum-over-cong f g (x ∷ xs) h = omega (arith, h x, sum-over-cong f g xs h)

  -- a sum over a list grows with its terms
  pub sum-over-mono : (f g : A → ℕ) (xs : List A) → ((x : A) → f x ≤ g x) → sum_over f xs ≤ sum_over g xs
  unfolding sum_over
  sum-over-mono f g [] h = omega arith
  sum-over-mono f g (x ∷ xs) h = omega (arith, h x, sum-over-mono f g xs h)

  -- a sum over one list after another
  pub sum-over-append : (f : A → ℕ) (xs ys : List A) → sum_over f (xs ++ ys) ≡ sum_over f xs + sum_over f ys
  unfolding sum_over
  sum-over-append f [] ys = omega arith
  sum-over-append f (x ∷ xs) ys = omega (arith, sum-over-append f xs ys)

  -- a sum does not depend on the order
  pub sum-over-rearranged : (f : A → ℕ) {xs ys : List A} → Rearranged xs ys → sum_over f xs ≡ sum_over f ys
  unfolding sum_over
  sum-over-rearranged f nothing = refl
  sum-over-rearranged f (keep r) = omega (arith, sum-over-rearranged f r)
  sum-over-rearranged f swap = omega arith
  sum-over-rearranged f (chain r s) = sum-over-rearranged f r ∙ sum-over-rearranged f s

  -- a count is a sum of ones
  pub count-sum : (test : A → Bool) (xs : List A) → count_if test xs ≡ sum_over (λ x. one_if (test x)) xs
  unfolding sum_over count_if
  count-sum test [] = refl
  count-sum test (x ∷ xs) = ap (λ n. one_if (test x) + n) (count-sum test xs)

  -- a test that agrees on every element counts the same
  pub count-cong : (f g : A → Bool) (xs : List A) → ((x : A) → f x ≡ g x) → count_if f xs ≡ count_if g xs
  count-cong f g xs h = simp count-sum (sum-over-cong _ _ xs (λ x. ap one_if (h x)))

  -- a weaker test counts at least as many
  pub count-mono : (f g : A → Bool) (xs : List A) → ((x : A) → f x ≡ true → g x ≡ true) → count_if f xs ≤ count_if g xs
  count-mono f g xs h = simp count-sum (sum-over-mono _ _ xs (λ x. one-if-mono (f x) (g x) (h x)))

  -- a count over one list after another
  pub count-append : (test : A → Bool) (xs ys : List A) → count_if test (xs ++ ys) ≡ count_if test xs + count_if test ys
  count-append test xs ys = simp count-sum (sum-over-append _ xs ys)

  -- a count does not depend on the order
  pub count-rearranged : (test : A → Bool) {xs ys : List A} → Rearranged xs ys → count_if test xs ≡ count_if test ys
  count-rearranged test r = simp count-sum (sum-over-rearranged _ r)

  -- a count is at most the length
  pub count-at-most : (test : A → Bool) (xs : List A) → count_if test xs ≤ length xs
  unfolding count_if
  count-at-most test [] = omega arith
  count-at-most test (x ∷ xs) = omega (arith, one-if-one (test x), count-at-most test xs)

  -- the positions of a list whose elements pass
  pub count-below-list : (d : A) (test : A → Bool) (xs : List A) → count_below_of (length xs) (λ i. test (get_or xs i d)) ≡ count_if test xs
  unfolding count_below_of
  count-below-list d test xs = sum-below-list d (λ x. one_if (test x)) xs ∙ sym (count-sum test xs)

-- what is counted among the elements that h makes
pub count_map : {A B : Type 0} (test : B → Bool) (h : A → B) (xs : List A) → count_if test (map h xs) ≡ count_if (λ x. test (h x)) xs
unfolding count_if
count_map test h [] = refl
count_map test h (x ∷ xs) = ap (λ (n : ℕ). one_if (test (h x)) + n) (count_map test h xs)

-- a count over successive numbers is a count below their number
pub count-numbers : (test : ℕ → Bool) (start n : ℕ) → count_if test (numbers_from start n) ≡ count_below_of n (λ i. test (start + i))
unfolding count_if numbers_from count_below_of sum_below
count-numbers test start zero = refl
count-numbers test start (suc n) = ap₂ ◌+◌ (ap (λ k. one_if (test k)) (omega arith)) (count-numbers test (suc start) n ∙ sum-below-cong n _ _ (λ i l. ap (λ k. one_if (test k)) (omega arith))) ∙ sym (sum-below-first n _)
