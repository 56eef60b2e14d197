-- Counting by candidates: where every number that passes a test is among some candidates, testing each of them once
-- counts them all.
use mathlib.Core.Bool.{Bool, true, false, not, ◌&&◌, false≢true}
use mathlib.Core.List.Memᴰ
use mathlib.Core.List.{List, [], ◌∷◌, Memᴰ}
use mathlib.Core.Logic.{⊎_elim}
use mathlib.Core.Path.{◌≡◌, refl, sym, ap, ◌∙◌}
use Prim.Native.Nat.{ℕ, pred, ◌+◌, ◌≤◌, ◌<◌}
use native.Mathlib.Decide.{ℕ_discrete}
use native.Mathlib.Omega.{arith}
use borrow.Author.Tests.{eq-eqb, ne_eqb}
use lib.Dec.{eqb}
use Rattle.model.specs.Counting.{one_if, count_below_of}
use Rattle.perimeter.specs.Reach.{unseen}
use Rattle.model.proofs.Laws.Counting.{sum-below-zero, count-below-cong, count-but-one, one-if-one}

-- at most one
pub at_most_one : {n : ℕ} (b : Bool) → n ≡ one_if b → n ≤ 1
at_most_one b e = omega (arith, one-if-one b)

-- how many candidates pass, an equal one counted once
unfoldable pub distinct : (ℕ → Bool) → List ℕ → ℕ
distinct test [] = 0
distinct test (c ∷ cs) = one_if (test c) + distinct (unseen c test) cs

-- c itself does not pass, any other number as before
pub unseen-self : (c : ℕ) (test : ℕ → Bool) (y : ℕ) → c ≡ y → unseen c test y ≡ false
unfolding unseen
unseen-self c test y p = simp (eq-eqb c y p)

pub unseen-new : (c : ℕ) (test : ℕ → Bool) (y : ℕ) → (c ≡ y → ⊥) → unseen c test y ≡ test y
unfolding unseen
unseen-new c test y p = simp (ne_eqb c y p)

-- a number that does not pass need not be looked for
pub unseen-failing : (c : ℕ) (test : ℕ → Bool) → test c ≡ false → (y : ℕ) → unseen c test y ≡ test y
unfolding unseen
unseen-failing c test e y = go (ℕ_discrete c y)
  where
    go : Dec (c ≡ y) → not (eqb c y) && test y ≡ test y
    go (yes p) = simp (eq-eqb c y p) (sym (ap test (sym p) ∙ e))
    go (no p) = simp (ne_eqb c y p)

-- what failed before fails still
pub unseen-fails : (c : ℕ) (test : ℕ → Bool) (y : ℕ) → test y ≡ false → unseen c test y ≡ false
unfolding unseen
unseen-fails c test y e = go (eqb c y)
  where
    go : (b : Bool) → not b && test y ≡ false
    go true = refl
    go false = e

-- what passes is another number than c, and passed before
unseen-other : (c : ℕ) (test : ℕ → Bool) (y : ℕ) → unseen c test y ≡ true → (c ≡ y → ⊥) × (test y ≡ true)
unfolding unseen
unseen-other c test y e = go (ℕ_discrete c y)
  where
    go : Dec (c ≡ y) → (c ≡ y → ⊥) × (test y ≡ true)
    go (yes p) = absurd (false≢true (sym (simp (eq-eqb c y p)) ∙ e))
    go (no p) = (p, simp (ne_eqb c y p) at e)

-- no number that passes, none counted
count_none : (n : ℕ) (test : ℕ → Bool) → ((i : ℕ) → i < n → test i ≡ true → ⊥) → count_below_of n test ≡ 0
unfolding count_below_of one_if
count_none n test h = sum-below-zero n _ (λ i l. go i l (test i) refl)
  where
    go : (i : ℕ) → i < n → (b : Bool) → test i ≡ b → one_if (test i) ≡ 0
    go i l true e = absurd (h i l e)
    go i l false e = rw e

-- a number from 1 on is the next after i, or its forerunner is i
next-equal : (c i : ℕ) → 1 ≤ c → eqb (pred c) i ≡ eqb c (1 + i)
next-equal c i h = go (ℕ_discrete (pred c) i)
  where
    go : Dec (pred c ≡ i) → eqb (pred c) i ≡ eqb c (1 + i)
    go (yes p) = eq-eqb (pred c) i p ∙ sym (eq-eqb c (1 + i) (omega arith))
    go (no p) = ne_eqb (pred c) i p ∙ sym (ne_eqb c (1 + i) (λ q. p (omega arith)))

-- one candidate at a time: it is counted if it passes, and then no longer looked for
count-one : (n : ℕ) (test : ℕ → Bool) (c : ℕ) → ((y : ℕ) → test y ≡ true → (1 ≤ y) × (y ≤ n)) → count_below_of n (λ i. test (1 + i)) ≡ one_if (test c) + count_below_of n (λ i. unseen c test (1 + i))
unfolding one_if unseen
count-one n test c bounds = go (test c) refl
  where
    go : (b : Bool) → test c ≡ b → count_below_of n (λ i. test (1 + i)) ≡ one_if b + count_below_of n (λ i. unseen c test (1 + i))
    go true e =
        let same : count_below_of n (λ i. not (eqb (pred c) i) && test (1 + i)) ≡ count_below_of n (λ i. unseen c test (1 + i)) =
        count-below-cong n _ _ (λ i l. ap (λ b. not b && test (1 + i)) (next-equal c i (bounds c e).0))
        in
        omega (arith, same, count-but-one n (pred c) (λ i. test (1 + i)) (omega (arith, bounds c e)) (ap test (omega (arith, bounds c e)) ∙ e))
    go false e = omega (arith, count-below-cong n _ _ (λ i l. unseen-failing c test e (1 + i)))

-- the numbers from 1 to n that pass are counted by the candidates, if those are all of them
pub count-candidates : (n : ℕ) (cs : List ℕ) (test : ℕ → Bool) → ((y : ℕ) → test y ≡ true → (1 ≤ y) × (y ≤ n)) → ((y : ℕ) → test y ≡ true → Memᴰ y cs) → count_below_of n (λ i. test (1 + i)) ≡ distinct test cs
unfolding distinct
count-candidates n [] test bounds among = count_none n _ (λ i l e. Memᴰ.not-nil (among (1 + i) e))
count-candidates n (c ∷ cs) test bounds among =
    count-one n test c bounds ∙
    ap (λ k. one_if (test c) + k)
    (count-candidates n cs (unseen c test)
    (λ y e. bounds y (unseen-other c test y e).1)
    (λ y e. ⊎_elim (λ p. absurd ((unseen-other c test y e).0 (sym p))) (λ m. m) (Memᴰ.cases_cons (among y (unseen-other c test y e).1))))
