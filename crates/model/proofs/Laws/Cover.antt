-- How many places of a rising list are reached from one end, from the other, or lie in a window: four numbers say it.
use mathlib.Core.Bool.{Bool, true, false, ◌&&◌, ◌||◌, true≢false}
use mathlib.Core.List.{List, [], ◌∷◌}
use mathlib.Core.Logic.{◌⊎◌, inl, inr}
use mathlib.Core.Path.{◌≡◌, ◌∙◌, refl, sym, ap, ap₂}
use Prim.Native.Nat.{ℕ, zero, suc, ◌+◌, ◌-◌, ◌≤◌, ◌<◌, min, max}
use native.Mathlib.Decide.{dec_lt, dec_le}
use native.Mathlib.Nat.{not-suc-le-zero, le_trans}
use native.Mathlib.Omega.{arith}
use borrow.Author.Tests.{lt-ltb, le-ltb, le-leb, lt-leb}
use lib.Dec.{leb, ltb}
use lib.ListN.{length, get_or}
use Rattle.model.proofs.Laws.Counting.{count-below-cong, count-below-list, count-at-most}
use Rattle.model.specs.Counting.{sum_below, count_below_of, count_if, one_if, covered}

abbrev pub in_cover : ℕ → ℕ → ℕ → ℕ → ℕ → ℕ → Bool
in_cover n p q below upto k = (ltb k p || leb (n - q) k) || (leb below k && ltb k upto)

-- whether one place is covered, as a number
one_place : (n p q below upto k : ℕ) → ((one_if (in_cover n p q below upto k) ≡ 1) × ((k < p) ⊎ ((n - q ≤ k) ⊎ ((below ≤ k) × (k < upto))))) ⊎ ((one_if (in_cover n p q below upto k) ≡ 0) × (p ≤ k) × (k < n - q) × ((k < below) ⊎ (upto ≤ k)))
unfolding one_if
one_place n p q below upto k = a (dec_lt k p)
  where
    d : p ≤ k → k < n - q → below ≤ k → Dec (k < upto) → ((one_if (in_cover n p q below upto k) ≡ 1) × ((k < p) ⊎ ((n - q ≤ k) ⊎ ((below ≤ k) × (k < upto))))) ⊎ ((one_if (in_cover n p q below upto k) ≡ 0) × (p ≤ k) × (k < n - q) × ((k < below) ⊎ (upto ≤ k)))
    d h l m (yes u) = inl (rw (le-ltb k p h, lt-leb (n - q) k l, le-leb below k m, lt-ltb k upto u), inr (inr (m, u)))
    d h l m (no u) = inr (rw (le-ltb k p h, lt-leb (n - q) k l, le-leb below k m, le-ltb k upto (omega arith)), h, l, inr (omega arith))

    c : p ≤ k → k < n - q → Dec (below ≤ k) → ((one_if (in_cover n p q below upto k) ≡ 1) × ((k < p) ⊎ ((n - q ≤ k) ⊎ ((below ≤ k) × (k < upto))))) ⊎ ((one_if (in_cover n p q below upto k) ≡ 0) × (p ≤ k) × (k < n - q) × ((k < below) ⊎ (upto ≤ k)))
    c h l (yes m) = d h l m (dec_lt k upto)
    c h l (no m) = inr (rw (le-ltb k p h, lt-leb (n - q) k l, lt-leb below k (omega arith)), h, l, inl (omega arith))

    b : p ≤ k → Dec (n - q ≤ k) → ((one_if (in_cover n p q below upto k) ≡ 1) × ((k < p) ⊎ ((n - q ≤ k) ⊎ ((below ≤ k) × (k < upto))))) ⊎ ((one_if (in_cover n p q below upto k) ≡ 0) × (p ≤ k) × (k < n - q) × ((k < below) ⊎ (upto ≤ k)))
    b h (yes l) = inl (rw (le-ltb k p h, le-leb (n - q) k l), inr (inl l))
    b h (no l) = c h (omega arith) (dec_le below k)

    a : Dec (k < p) → ((one_if (in_cover n p q below upto k) ≡ 1) × ((k < p) ⊎ ((n - q ≤ k) ⊎ ((below ≤ k) × (k < upto))))) ⊎ ((one_if (in_cover n p q below upto k) ≡ 0) × (p ≤ k) × (k < n - q) × ((k < below) ⊎ (upto ≤ k)))
    a (yes h) = inl (rw (lt-ltb k p h), inl h)
    a (no h) = b (omega arith) (dec_le (n - q) k)

-- the length of the stretch from low to high that lies below m, as m grows by one
grows : (low high m : ℕ) → low ≤ m → m < high → min high (suc m) - low ≡ suc (min high m - low)
grows low high m h l = omega arith

stays : (low high m : ℕ) → (m < low) ⊎ (high ≤ m) → min high (suc m) - low ≡ min high m - low
stays low high m (inl h) = omega arith
stays low high m (inr h) = omega arith

min-under : (a b m : ℕ) → (a ≤ m) ⊎ (b ≤ m) → min a b ≤ m
min-under a b m (inl h) = omega arith
min-under a b m (inr h) = omega arith

min-over : (a b m : ℕ) → m < a → m < b → m < min a b
min-over a b m h l = omega arith

max-over : (a b m : ℕ) → (m < a) ⊎ (m < b) → m < max a b
max-over a b m (inl h) = omega arith
max-over a b m (inr h) = omega arith

max-under : (a b m : ℕ) → a ≤ m → b ≤ m → max a b ≤ m
max-under a b m h l = omega arith

step : (m one a a' b b' : ℕ) → (count : ℕ) → (count + a) + b ≡ m → (one + a') + b' ≡ suc (a + b) → ((count + one) + a') + b' ≡ suc m
step m one a a' b b' count e f = omega arith

kept : {one a a' b b' : ℕ} → one ≡ 1 → a' ≡ a → b' ≡ b → (one + a') + b' ≡ suc (a + b)
kept e f g = omega arith

first : {one a a' b b' : ℕ} → one ≡ 0 → a' ≡ suc a → b' ≡ b → (one + a') + b' ≡ suc (a + b)
first e f g = omega arith

second : {one a a' b b' : ℕ} → one ≡ 0 → a' ≡ a → b' ≡ suc b → (one + a') + b' ≡ suc (a + b)
second e f g = omega arith

nothing : (low high : ℕ) → min high 0 - low ≡ 0
nothing low high = omega arith

-- of the first m places, those that are covered and the two stretches that are not
cover-to : (n p q below upto m : ℕ) → below ≤ upto → (count_below_of m (in_cover n p q below upto) + (min (min below (n - q)) m - p)) + (min (n - q) m - max upto p) ≡ m
unfolding count_below_of sum_below
cover-to n p q below upto zero h = rw (nothing p (min below (n - q)), nothing (max upto p) (n - q))
cover-to n p q below upto (suc m) h = go (one_place n p q below upto m) (cover-to n p q below upto m h)
  where
    low : ℕ
    low = min below (n - q)

    high : ℕ
    high = max upto p

    -- the two stretches at suc m, from whether the place m is covered
    go : ((one_if (in_cover n p q below upto m) ≡ 1) × ((m < p) ⊎ ((n - q ≤ m) ⊎ ((below ≤ m) × (m < upto))))) ⊎ ((one_if (in_cover n p q below upto m) ≡ 0) × (p ≤ m) × (m < n - q) × ((m < below) ⊎ (upto ≤ m))) → (sum_below m (λ k. one_if (in_cover n p q below upto k)) + (min low m - p)) + (min (n - q) m - high) ≡ m → ((sum_below m (λ k. one_if (in_cover n p q below upto k)) + one_if (in_cover n p q below upto m)) + (min low (suc m) - p)) + (min (n - q) (suc m) - high) ≡ suc m
    go (inl (e, inl l)) ih = step m _ (min low m - p) _ (min (n - q) m - high) _ _ ih (kept e (stays p low m (inl l)) (stays high (n - q) m (inl (max-over upto p m (inr l)))))
    go (inl (e, inr (inl l))) ih = step m _ (min low m - p) _ (min (n - q) m - high) _ _ ih (kept e (stays p low m (inr (min-under below (n - q) m (inr l)))) (stays high (n - q) m (inr l)))
    go (inl (e, inr (inr (l, u)))) ih = step m _ (min low m - p) _ (min (n - q) m - high) _ _ ih (kept e (stays p low m (inr (min-under below (n - q) m (inl l)))) (stays high (n - q) m (inl (max-over upto p m (inl u)))))
    go (inr (e, l, u, inl x)) ih = step m _ (min low m - p) _ (min (n - q) m - high) _ _ ih (first e (grows p low m l (min-over below (n - q) m x u)) (stays high (n - q) m (inl (max-over upto p m (inl (le_trans x h))))))
    go (inr (e, l, u, inr x)) ih = step m _ (min low m - p) _ (min (n - q) m - high) _ _ ih (second e (stays p low m (inr (min-under below (n - q) m (inl (le_trans h x))))) (grows high (n - q) m (max-under upto p m x l) u))

-- all places
pub cover-count : (n p q below upto : ℕ) → below ≤ upto → count_below_of n (in_cover n p q below upto) ≡ covered n p q below upto
cover-count n p q below upto h = last _ _ _ _ _ (cover-to n p q below upto n h) (omega arith) (omega arith)
  where
    last : (count a a' b b' : ℕ) → (count + a) + b ≡ n → a ≡ a' → b ≡ b' → count ≡ n - a' - b'
    last count a a' b b' e f g = omega arith

-- a test that holds nowhere
pub none_pass : (test : ℕ → Bool) (xs : List ℕ) → ((k : ℕ) → k < length xs → test (get_or xs k 0) ≡ false) → count_if test xs ≡ 0
unfolding count_if one_if
none_pass test [] off = refl
none_pass test (x ∷ xs) off = rw (off 0 (omega arith)) (omega (arith, none_pass test xs (λ k h. off (suc k) (omega arith))))

pub all_pass : (test : ℕ → Bool) (xs : List ℕ) → ((k : ℕ) → k < length xs → test (get_or xs k 0) ≡ true) → count_if test xs ≡ length xs
unfolding count_if one_if
all_pass test [] on = refl
all_pass test (x ∷ xs) on = rw (on 0 (omega arith)) (omega (arith, all_pass test xs (λ k h. on (suc k) (omega arith))))

not-later : (test : ℕ → Bool) (x y : ℕ) → (test y ≡ true → test x ≡ true) → test x ≡ false → test y ≡ false
not-later test x y back off = go (test y) refl
  where
    go : (b : Bool) → test y ≡ b → test y ≡ false
    go true e = absurd (true≢false (sym (back e) ∙ off))
    go false e = e

-- a test that, failing at a place, fails at all later ones holds at exactly the first so many places, its count
pub first-places : (test : ℕ → Bool) (xs : List ℕ) → ((k j : ℕ) → k ≤ j → j < length xs → test (get_or xs j 0) ≡ true → test (get_or xs k 0) ≡ true) → (k : ℕ) → k < length xs → test (get_or xs k 0) ≡ ltb k (count_if test xs)
unfolding count_if one_if
first-places test [] down k h = absurd (not-suc-le-zero h)
first-places test (x ∷ xs) down k h = go (test x) refl k h (first-places test xs (λ k j l m. down (suc k) (suc j) (omega arith) (omega arith)))
  where
    off : test x ≡ false → (k : ℕ) → k < length (x ∷ xs) → test (get_or (x ∷ xs) k 0) ≡ false
    off e k h = not-later test x (get_or (x ∷ xs) k 0) (down 0 k (omega arith) h) e

    go : (b : Bool) → test x ≡ b → (k : ℕ) → k < length (x ∷ xs) → ((k : ℕ) → k < length xs → test (get_or xs k 0) ≡ ltb k (count_if test xs)) → test (get_or (x ∷ xs) k 0) ≡ ltb k (one_if (test x) + count_if test xs)
    go false e k h ih = off e k h ∙ sym (le-ltb k (one_if (test x) + count_if test xs) (omega (arith, none_pass test (x ∷ xs) (off e))))
    go true e zero h ih = e ∙ sym (lt-ltb 0 (one_if (test x) + count_if test xs) (omega (arith, ap one_if e)))
    go true e (suc k) h ih = ih k (omega arith) ∙ same (dec_lt k (count_if test xs))
      where
        same : Dec (k < count_if test xs) → ltb k (count_if test xs) ≡ ltb (suc k) (one_if (test x) + count_if test xs)
        same (yes l) = lt-ltb k (count_if test xs) l ∙ sym (lt-ltb (suc k) (one_if (test x) + count_if test xs) (omega (arith, ap one_if e)))
        same (no l) = le-ltb k (count_if test xs) (omega arith) ∙ sym (le-ltb (suc k) (one_if (test x) + count_if test xs) (omega (arith, ap one_if e)))

-- a test that, holding at a place, holds at all later ones holds at exactly the last so many places, its count
pub last-places : (test : ℕ → Bool) (xs : List ℕ) → ((k j : ℕ) → k ≤ j → j < length xs → test (get_or xs k 0) ≡ true → test (get_or xs j 0) ≡ true) → (k : ℕ) → k < length xs → test (get_or xs k 0) ≡ leb (length xs - count_if test xs) k
unfolding count_if one_if
last-places test [] up k h = absurd (not-suc-le-zero h)
last-places test (x ∷ xs) up k h = go (test x) refl k h (last-places test xs (λ k j l m. up (suc k) (suc j) (omega arith) (omega arith)))
  where
    on : test x ≡ true → (k : ℕ) → k < length (x ∷ xs) → test (get_or (x ∷ xs) k 0) ≡ true
    on e k h = up 0 k (omega arith) h e

    go : (b : Bool) → test x ≡ b → (k : ℕ) → k < length (x ∷ xs) → ((k : ℕ) → k < length xs → test (get_or xs k 0) ≡ leb (length xs - count_if test xs) k) → test (get_or (x ∷ xs) k 0) ≡ leb (suc (length xs) - (one_if (test x) + count_if test xs)) k
    go true e k h ih = on e k h ∙ sym (le-leb (suc (length xs) - (one_if (test x) + count_if test xs)) k (omega (arith, all_pass test (x ∷ xs) (on e))))
    go false e zero h ih = e ∙ sym (lt-leb (suc (length xs) - (one_if (test x) + count_if test xs)) 0 (omega (arith, ap one_if e, count-at-most test xs)))
    go false e (suc k) h ih = ih k (omega arith) ∙ same (dec_le (length xs - count_if test xs) k)
      where
        same : Dec (length xs - count_if test xs ≤ k) → leb (length xs - count_if test xs) k ≡ leb (suc (length xs) - (one_if (test x) + count_if test xs)) (suc k)
        same (yes l) = le-leb (length xs - count_if test xs) k l ∙ sym (le-leb (suc (length xs) - (one_if (test x) + count_if test xs)) (suc k) (omega (arith, ap one_if e)))
        same (no l) = lt-leb (length xs - count_if test xs) k (omega arith) ∙ sym (lt-leb (suc (length xs) - (one_if (test x) + count_if test xs)) (suc k) (omega (arith, ap one_if e, count-at-most test xs)))

-- how many of a list are reached: low holds at the first places, high at the last, middle in between
pub cover-list : (xs : List ℕ) (low high middle : ℕ → Bool) (p q below upto : ℕ) → below ≤ upto → ((k : ℕ) → k < length xs → low (get_or xs k 0) ≡ ltb k p) → ((k : ℕ) → k < length xs → high (get_or xs k 0) ≡ leb (length xs - q) k) → ((k : ℕ) → k < length xs → middle (get_or xs k 0) ≡ (leb below k && ltb k upto)) → count_if (λ x. (low x || high x) || middle x) xs ≡ covered (length xs) p q below upto
cover-list xs low high middle p q below upto h l u m =
    sym (count-below-list 0 (λ x. (low x || high x) || middle x) xs)
    ∙ count-below-cong (length xs) (λ k. (low (get_or xs k 0) || high (get_or xs k 0)) || middle (get_or xs k 0)) (in_cover (length xs) p q below upto) (λ k i. ap₂ ◌||◌ (ap₂ ◌||◌ (l k i) (u k i)) (m k i))
    ∙ cover-count (length xs) p q below upto h
