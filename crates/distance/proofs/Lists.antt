-- A list after one store, read at any index.
use mathlib.Core.Logic.{◌⊎◌, inl, inr, ◌≢◌}
use mathlib.Core.List.{List}
use mathlib.Core.Path.{◌≡◌, ◌∙◌, refl}
use Prim.Native.Nat.{ℕ, ◌+◌, ◌<◌, ◌≤◌}
use native.Mathlib.Decide.{ℕ_discrete, dec_lt}
use native.Mathlib.Omega.{arith}
use lib.ListN.{length, get_or, set, length-set, get_or-eq_default}
use lib.Seq.{get_or-set_same, get_or-set_other}

-- P holds at j of the list after the store if it holds there of the stored value, or elsewhere of the old entry
pub after-set : (P : ℕ → ℕ → Type 0) (l : List ℕ) (i v j : ℕ) → i < length l → P i v → (j ≢ i → P j (get_or l j 0)) → P j (get_or (set l i v) j 0)
after-set P l i v j h here there = go (ℕ_discrete j i)
  where
    go : Dec (j ≡ i) → P j (get_or (set l i v) j 0)
    go (yes e) = rw (e, get_or-set_same l i v 0 h) here
    go (no n) = rw (get_or-set_other l i j v 0 n) (there n)

-- the entry at j after a store of v at i: the stored value, or the old entry
abbrev pub AfterStore : List ℕ → ℕ → ℕ → ℕ → Type 0
AfterStore l i v j = ((j ≡ i) × (get_or (set l i v) j 0 ≡ v)) ⊎ ((j ≢ i) × (get_or (set l i v) j 0 ≡ get_or l j 0))

pub set_cases : (l : List ℕ) (i v j : ℕ) → i < length l → AfterStore l i v j
set_cases l i v j h = go (ℕ_discrete j i)
  where
    go : Dec (j ≡ i) → AfterStore l i v j
    go (yes e) = inl (e, rw (e, get_or-set_same l i v 0 h))
    go (no n) = inr (n, get_or-set_other l i j v 0 n)

-- a loop that replaces the entries of a list one after the other: P relates each old entry below n to its new one
pub record Swept (P : ℕ → ℕ → Type 0) (old new : List ℕ) (n : ℕ) : Type 0 where
  pub same_length : length new ≡ length old
  pub done : (j : ℕ) → j < n → P (get_or old j 0) (get_or new j 0)
  pub rest : (j : ℕ) → n ≤ j → get_or new j 0 ≡ get_or old j 0

pub sweep-none : (P : ℕ → ℕ → Type 0) (old : List ℕ) → Swept P old old 0
sweep-none P old = record { same_length = refl; done = λ j h. absurd (below-zero j h); rest = λ j h. refl }
  where
    below-zero : (j : ℕ) → j < 0 → ⊥
    below-zero j h = omega arith

pub sweep-more : (P : ℕ → ℕ → Type 0) (old new : List ℕ) (n v : ℕ) → Swept P old new n → n < length new → P (get_or new n 0) v → Swept P old (set new n v) (n + 1)
sweep-more P old new n v s h p =
    record {
      same_length = length-set new n v ∙ s.same_length;
      done = λ j l. done j l (set_cases new n v j h);
      rest = λ j l. rest j l (set_cases new n v j h);
    }
  where
    done : (j : ℕ) → j < n + 1 → AfterStore new n v j → P (get_or old j 0) (get_or (set new n v) j 0)
    done j l (inl (e, q)) = rw (q, e, ← s.rest n (omega arith)) p
    done j l (inr (e, q)) = rw q (s.done j (omega arith))

    rest : (j : ℕ) → n + 1 ≤ j → AfterStore new n v j → get_or (set new n v) j 0 ≡ get_or old j 0
    rest j l (inl (e, q)) = absurd (apart l e)
      where
        apart : n + 1 ≤ j → j ≡ n → ⊥
        apart l e = omega arith
    rest j l (inr (e, q)) = q ∙ s.rest j (omega arith)

pub sweep-all : (P : ℕ → ℕ → Type 0) (old new : List ℕ) (n : ℕ) → Swept P old new n → length new ≤ n → P 0 0 → (j : ℕ) → P (get_or old j 0) (get_or new j 0)
sweep-all P old new n s short none j = go (dec_lt j n)
  where
    go : Dec (j < n) → P (get_or old j 0) (get_or new j 0)
    go (yes h) = s.done j h
    go (no h) = rw (get_or-eq_default old 0 {n = j} (omega (arith, s.same_length)), get_or-eq_default new 0 {n = j} (omega arith)) none
