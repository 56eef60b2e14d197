-- Rows laid one after another: a list of pairs of a row number and an element of that row, each pair made into a value.
use mathlib.Core.List.Memᴰ
use mathlib.Core.List.{List, [], ◌++◌, map, Memᴰ}
use mathlib.Core.Logic.{◌⊎◌, inl, inr}
use mathlib.Core.Path.{◌≡◌, refl, sym, ap, ap₂, subst, ◌∙◌}
use Prim.Native.Nat.{ℕ, zero, suc, ◌+◌, ◌<◌}
use native.Mathlib.Decide.{ℕ_discrete}
use native.Mathlib.Omega.{arith}
use lib.ListN.{length, length-append, length-map}
use Rattle.model.specs.Counting.{sum_below, NoRepeats, no_element}
use Rattle.model.proofs.Laws.Lists.{no-repeats-append, no-repeats-map}

-- what make gives of the elements of rows 0, 1, .., n - 1, in that order
unfoldable pub rows : {A B : Type 0} → (ℕ → A → B) → (ℕ → List A) → ℕ → List B
rows make row zero = []
rows make row (suc n) = rows make row n ++ map (make n) (row n)

-- b is made of an element of a row below n
pub record InRows {A B : Type 0} (make : ℕ → A → B) (row : ℕ → List A) (n : ℕ) (b : B) : Type 0 where
  pub number : ℕ
  pub element : A
  pub below : number < n
  pub held : Memᴰ element (row number)
  pub made : make number element ≡ b

module _ {A B : Type 0} (make : ℕ → A → B) (row : ℕ → List A) where
  -- what the rows hold is made of an element of one of them
  pub rows-only : {b : B} (n : ℕ) → Memᴰ b (rows make row n) → InRows make row n b
  unfolding rows
  rows-only zero m = absurd (Memᴰ.not-nil m)
  rows-only {b} (suc n) m = go (λ l. rows-only n l) (Memᴰ.append_cases (rows make row n) m)
    where
      go : (Memᴰ b (rows make row n) → InRows make row n b) → Memᴰ b (rows make row n) ⊎ Memᴰ b (map (make n) (row n)) → InRows make row (suc n) b
      go rest (inl l) =
          let r = rest l in
          record { number = r.number; element = r.element; below = omega arith; held = r.held; made = r.made }
      go rest (inr l) =
          let r = Memᴰ.of_map (make n) (row n) l in
          record { number = n; element = r.0; below = omega arith; held = r.1; made = r.2 }

  -- what is made of an element of a row is there
  pub rows-hold : (n i : ℕ) {a : A} → i < n → Memᴰ a (row i) → Memᴰ (make i a) (rows make row n)
  unfolding rows
  rows-hold zero i l m = absurd (omega arith)
  rows-hold (suc n) i {a} l m = go (ℕ_discrete i n) (λ k. rows-hold n i k m)
    where
      go : Dec (i ≡ n) → (i < n → Memᴰ (make i a) (rows make row n)) → Memᴰ (make i a) (rows make row n ++ map (make n) (row n))
      go (yes e) rest =
          Memᴰ.cast (ap (λ k. make k a) e) (Memᴰ.append_right (rows make row n) (Memᴰ.map (make n) (subst (λ k. Memᴰ a (row k)) e m)))
      go (no e) rest = Memᴰ.append_left (map (make n) (row n)) (rest (omega arith))

  -- as many as the rows have together
  pub rows-length : (n : ℕ) → length (rows make row n) ≡ sum_below n (λ i. length (row i))
  unfolding rows sum_below
  rows-length zero = refl
  rows-length (suc n) = length-append (rows make row n) (map (make n) (row n)) ∙ ap₂ ◌+◌ (rows-length n) (length-map (row n) (make n))

  -- rows with no repeats, where make keeps different rows and different elements different
  pub rows-no-repeats : ((i j : ℕ) (a b : A) → make i a ≡ make j b → i ≡ j) → ((i : ℕ) (a b : A) → make i a ≡ make i b → a ≡ b) → ((i : ℕ) → NoRepeats (row i)) → (n : ℕ) → NoRepeats (rows make row n)
  unfolding rows
  rows-no-repeats same_row same-element each zero = no_element
  rows-no-repeats same_row same-element each (suc n) =
      no-repeats-append
      (rows-no-repeats same_row same-element each n)
      (no-repeats-map (make n) (same-element n) (each n))
      (λ b l m.
      let r = rows-only n l in
      let s = Memᴰ.of_map (make n) (row n) m in
      let e = same_row r.number n r.element s.0 (r.made ∙ sym s.2) in
      omega (arith, e, r.below))
