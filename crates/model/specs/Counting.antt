-- Sums, counts and membership over the numbers below a bound and over lists, equal entries in a row, and what several stretches of
-- places cover.
use Rattle.std.specs.Prelude.{Bool, true, false, cond, ℕ, zero, suc, ◌+◌, ◌-◌, min, max, eqb, drop, get_or}
use mathlib.Core.List.{List, [], ◌∷◌, Memᴰ}

-- f 0 + f 1 + .. + f (n - 1)
unfoldable pub sum_below : ℕ → (ℕ → ℕ) → ℕ
sum_below zero f = 0
sum_below (suc n) f = sum_below n f + f n

-- 1 where the test holds, else 0
unfoldable pub one_if : Bool → ℕ
one_if true = 1
one_if false = 0

-- how many numbers below n pass the test
unfoldable pub count_below_of : ℕ → (ℕ → Bool) → ℕ
count_below_of n test = sum_below n (λ i. one_if (test i))

-- how many elements of the list pass the test, repeats counted
unfoldable pub count_if : {A : Type 0} → (A → Bool) → List A → ℕ
count_if test [] = 0
count_if test (x ∷ xs) = one_if (test x) + count_if test xs

-- how many of n positions are among the first p, among the last q, or from `below` on and before `upto`, where `below` is at most
-- `upto`, each counted once
abbrev pub covered : ℕ → ℕ → ℕ → ℕ → ℕ → ℕ
covered n p q below upto = n - (min below (n - q) - p) - ((n - q) - max upto p)

-- how many entries at the front of a list equal a number
unfoldable pub equals_in_front : ℕ → List ℕ → ℕ
equals_in_front n [] = 0
equals_in_front n (m ∷ ms) = cond (eqb m n) (suc (equals_in_front n ms)) 0

-- the position after the run of equal entries that begins at position k
unfoldable pub equals_end_of : List ℕ → ℕ → ℕ
equals_end_of ns k = k + equals_in_front (get_or ns k 0) (drop k ns)

-- the numbers start, start + 1, .., n of them
unfoldable pub numbers_from : ℕ → ℕ → List ℕ
numbers_from start zero = []
numbers_from start (suc n) = start ∷ numbers_from (suc start) n

-- no element of the list stands in it twice
pub data NoRepeats {A : Type 0} : List A → Type 0 where
  no_element : NoRepeats []
  one_more : {x : A} {xs : List A} → (Memᴰ x xs → ⊥) → NoRepeats xs → NoRepeats (x ∷ xs)

-- the second list holds the same elements as the first, each as often, in any order
pub data Rearranged {A : Type 0} : List A → List A → Type 0 where
  nothing : Rearranged [] []
  keep : {x : A} {xs ys : List A} → Rearranged xs ys → Rearranged (x ∷ xs) (x ∷ ys)
  swap : {x y : A} {xs : List A} → Rearranged (x ∷ y ∷ xs) (y ∷ x ∷ xs)
  chain : {xs ys zs : List A} → Rearranged xs ys → Rearranged ys zs → Rearranged xs zs
