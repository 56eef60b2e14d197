-- Laws of lists with no repeats, of rearranged lists, of successive numbers, of the elements that pass a test and of those made of others.
use mathlib.Core.Bool.{Bool, true, false, cond, false≢true}
use mathlib.Core.List.Memᴰ
use mathlib.Core.List.{List, [], ◌∷◌, ◌++◌, map, Memᴰ}
use mathlib.Core.Logic.{◌⊎◌, inl, inr, ⊎_elim}
use mathlib.Core.Path.{◌≡◌, refl, sym, ap, ◌∙◌}
use Prim.Native.Nat.{ℕ, zero, suc, ◌+◌, ◌≤◌, ◌<◌}
use native.Mathlib.Decide.{ℕ_discrete}
use native.Mathlib.Omega.{arith}
use lib.ListN.{length, get_or}
use Rattle.model.specs.Counting.{one_if, count_if, numbers_from, NoRepeats, no_element, one_more, Rearranged, nothing, keep, swap, chain}

module _ {A : Type 0} where
  -- every list is a rearrangement of itself
  pub rearranged-self : (xs : List A) → Rearranged xs xs
  rearranged-self [] = nothing
  rearranged-self (x ∷ xs) = keep (rearranged-self xs)

  -- a rearrangement goes both ways
  pub rearranged-back : {xs ys : List A} → Rearranged xs ys → Rearranged ys xs
  rearranged-back nothing = nothing
  rearranged-back (keep r) = keep (rearranged-back r)
  rearranged-back swap = swap
  rearranged-back (chain r s) = chain (rearranged-back s) (rearranged-back r)

  -- it keeps the length
  pub rearranged-length : {xs ys : List A} → Rearranged xs ys → length xs ≡ length ys
  rearranged-length nothing = refl
  rearranged-length (keep r) = ap suc (rearranged-length r)
  rearranged-length swap = refl
  rearranged-length (chain r s) = rearranged-length r ∙ rearranged-length s

  -- it keeps every element
  pub rearranged-holds : {x : A} {xs ys : List A} → Rearranged xs ys → Memᴰ x xs → Memᴰ x ys
  rearranged-holds nothing m = m
  rearranged-holds (keep r) m = ⊎_elim Memᴰ.head (λ l. Memᴰ.tail (rearranged-holds r l)) (Memᴰ.cases_cons m)
  rearranged-holds swap m =
      ⊎_elim
      (λ e. Memᴰ.tail (Memᴰ.head e))
      (λ l. ⊎_elim Memᴰ.head (λ k. Memᴰ.tail (Memᴰ.tail k)) (Memᴰ.cases_cons l))
      (Memᴰ.cases_cons m)
  rearranged-holds (chain r s) m = rearranged-holds s (rearranged-holds r m)

  -- one list after another with no element in common
  pub no-repeats-append : {xs ys : List A} → NoRepeats xs → NoRepeats ys → ((x : A) → Memᴰ x xs → Memᴰ x ys → ⊥) → NoRepeats (xs ++ ys)
  no-repeats-append no_element n d = n
  no-repeats-append (one_more {x = x} {xs = xs} out m) n d =
      one_more
      (λ k. ⊎_elim out (d x (Memᴰ.head refl)) (Memᴰ.append_cases xs k))
      (no-repeats-append m n (λ y l. d y (Memᴰ.tail l)))

  -- the elements of a list that pass a test, in order
  unfoldable pub passing : (A → Bool) → List A → List A
  passing test [] = []
  passing test (x ∷ xs) = cond (test x) (x ∷ passing test xs) (passing test xs)

  -- as many as are counted
  pub passing-length : (test : A → Bool) (xs : List A) → length (passing test xs) ≡ count_if test xs
  unfolding passing count_if one_if
  passing-length test [] = refl
  passing-length test (x ∷ xs) = go (test x) (passing-length test xs)
    where
      go : (b : Bool) → length (passing test xs) ≡ count_if test xs → length (cond b (x ∷ passing test xs) (passing test xs)) ≡ one_if b + count_if test xs
      go true e = omega arith
      go false e = omega arith

  -- what passes is in the list, and passes
  pub passing-only : (test : A → Bool) {x : A} (xs : List A) → Memᴰ x (passing test xs) → Memᴰ x xs × (test x ≡ true)
  unfolding passing
  passing-only test [] m = absurd (Memᴰ.not-nil m)
  passing-only test {x} (y ∷ xs) m = go (test y) refl (λ l. passing-only test xs l) m
    where
      go : (b : Bool) → test y ≡ b → (Memᴰ x (passing test xs) → Memᴰ x xs × (test x ≡ true)) → Memᴰ x (cond b (y ∷ passing test xs) (passing test xs)) → Memᴰ x (y ∷ xs) × (test x ≡ true)
      go true e rest l =
          ⊎_elim
          (λ p. (Memᴰ.head p, ap test p ∙ e))
          (λ k. (Memᴰ.tail (rest k).0, (rest k).1))
          (Memᴰ.cases_cons l)
      go false e rest l = (Memᴰ.tail (rest l).0, (rest l).1)

  -- every element that passes is there
  pub passing-holds : (test : A → Bool) {x : A} (xs : List A) → Memᴰ x xs → test x ≡ true → Memᴰ x (passing test xs)
  unfolding passing
  passing-holds test [] m e = m
  passing-holds test {x} (y ∷ xs) m e = go (test y) refl (λ l. passing-holds test xs l e) (Memᴰ.cases_cons m)
    where
      go : (b : Bool) → test y ≡ b → (Memᴰ x xs → Memᴰ x (passing test xs)) → (x ≡ y) ⊎ Memᴰ x xs → Memᴰ x (cond b (y ∷ passing test xs) (passing test xs))
      go true f rest (inl p) = Memᴰ.head p
      go true f rest (inr l) = Memᴰ.tail (rest l)
      go false f rest (inl p) = absurd (false≢true (sym f ∙ ap test (sym p) ∙ e))
      go false f rest (inr l) = rest l

  -- with no repeats in the list, none in what passes
  pub passing-no-repeats : (test : A → Bool) {xs : List A} → NoRepeats xs → NoRepeats (passing test xs)
  unfolding passing
  passing-no-repeats test no_element = no_element
  passing-no-repeats test (one_more {x = x} {xs = xs} out n) = go (test x) (passing-no-repeats test n)
    where
      go : (b : Bool) → NoRepeats (passing test xs) → NoRepeats (cond b (x ∷ passing test xs) (passing test xs))
      go true m = one_more (λ k. out (passing-only test xs k).0) m
      go false m = m

-- the images of a list with no repeats under a function that keeps different elements different
pub no-repeats-map : {A B : Type 0} (f : A → B) → ((x y : A) → f x ≡ f y → x ≡ y) → {xs : List A} → NoRepeats xs → NoRepeats (map f xs)
no-repeats-map f one no_element = no_element
no-repeats-map f one (one_more {x = x} {xs = xs} out n) =
    one_more
    (λ k.
    let r = Memᴰ.of_map f xs k in
    out (Memᴰ.cast (sym (one _ _ r.2)) r.1))
    (no-repeats-map f one n)

-- a number of a run is one of its bounds
pub numbers-only : {k : ℕ} (start n : ℕ) → Memᴰ k (numbers_from start n) → (start ≤ k) × (k < start + n)
unfolding numbers_from
numbers-only start zero m = absurd (Memᴰ.not-nil m)
numbers-only start (suc n) m =
    ⊎_elim
    (λ e. (omega arith, omega arith))
    (λ l.
    let r = numbers-only (suc start) n l in
    (omega arith, omega arith))
    (Memᴰ.cases_cons m)

-- a number within its bounds is in a run
pub numbers-hold : (k start n : ℕ) → start ≤ k → k < start + n → Memᴰ k (numbers_from start n)
unfolding numbers_from
numbers-hold k start zero low high = absurd (omega arith)
numbers-hold k start (suc n) low high = go (ℕ_discrete k start) (λ l. numbers-hold k (suc start) n l (omega arith))
  where
    go : Dec (k ≡ start) → (suc start ≤ k → Memᴰ k (numbers_from (suc start) n)) → Memᴰ k (start ∷ numbers_from (suc start) n)
    go (yes e) rest = Memᴰ.head e
    go (no e) rest = Memᴰ.tail (rest (omega arith))

-- a run has no repeats
pub numbers-no-repeats : (start n : ℕ) → NoRepeats (numbers_from start n)
unfolding numbers_from
numbers-no-repeats start zero = no_element
numbers-no-repeats start (suc n) =
    one_more
    (λ (m : Memᴰ start (numbers_from (suc start) n)).
    let r = numbers-only (suc start) n m in
    omega arith)
    (numbers-no-repeats (suc start) n)

-- a run is as long as it says
pub numbers-length : (start n : ℕ) → length (numbers_from start n) ≡ n
unfolding numbers_from
numbers-length start zero = refl
numbers-length start (suc n) = ap suc (numbers-length (suc start) n)

-- the entry of a list made from successive numbers
pub from-numbers : (f : ℕ → ℕ) (start n k : ℕ) → k < n → get_or (map f (numbers_from start n)) k 0 ≡ f (start + k)
unfolding numbers_from
from-numbers f start zero k h = absurd (omega arith)
from-numbers f start (suc n) zero h = ap f (omega arith)
from-numbers f start (suc n) (suc k) h = from-numbers f (suc start) n k (omega arith) ∙ ap f (omega arith)

-- a list whose entries are those of f from start on
pub all-entries : (f : ℕ → ℕ) (l : List ℕ) (start n : ℕ) → length l ≡ n → ((k : ℕ) → k < n → get_or l k 0 ≡ f (start + k)) → l ≡ map f (numbers_from start n)
unfolding numbers_from
all-entries f [] start zero e h = refl
all-entries f [] start (suc n) e h = absurd (omega arith)
all-entries f (x ∷ l) start zero e h = absurd (omega arith)
all-entries f (x ∷ l) start (suc n) e h = head (h 0 (omega arith)) (all-entries f l (suc start) n (omega arith) (λ k i. h (suc k) (omega arith) ∙ ap f (omega arith)))
  where
    head : x ≡ f (start + 0) → l ≡ map f (numbers_from (suc start) n) → x ∷ l ≡ f start ∷ map f (numbers_from (suc start) n)
    head p q = rw (p ∙ ap f {y = start} (omega arith), ← q)

-- what a function makes of the element at a place
pub map_at : (f : ℕ → ℕ) (l : List ℕ) (k : ℕ) → k < length l → get_or (map f l) k 0 ≡ f (get_or l k 0)
map_at f [] k h = absurd (omega arith)
map_at f (x ∷ l) zero h = refl
map_at f (x ∷ l) (suc k) h = map_at f l k (omega arith)
