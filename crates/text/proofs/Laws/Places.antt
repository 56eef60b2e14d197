-- Laws of the places of bytes: what is known while bytes are passed, and the bounds of the place.
use mathlib.Core.Bool.{Bool, true, false, cond, ◌&&◌}
use mathlib.Core.List.{List, [], ◌∷◌}
use mathlib.Core.Path.{◌≡◌, refl, ap, ◌∙◌}
use Prim.Native.Nat.{ℕ, suc, ◌+◌, ◌≤◌, ◌<◌}
use native.Mathlib.Numerals.{add-one}
use native.Mathlib.Omega.{arith}
use borrow.Author.Tests.{eq-eqb, ne_eqb}
use lib.Dec.{eqb}
use lib.ListN.{length, get_or, drop, length-drop, drop_of_length-le}
use lib.Seq.{drop-cons}
use Rattle.text.specs.Places.{first_at, pair_at}

-- the place is not among the first i bytes
pub record Passed (place : List ℕ → ℕ) (bytes : List ℕ) (i : ℕ) : Type 0 where
  pub inside : i ≤ length bytes
  pub behind : place bytes ≡ i + place (drop i bytes)

module _ (place : List ℕ → ℕ) (bytes : List ℕ) where
  module _ {i : ℕ} (passed : Passed place bytes i) where
    pub pass-one : i < length bytes → place (drop i bytes) ≡ suc (place (drop (suc i) bytes)) → Passed place bytes (i + 1)
    pass-one h e = record { inside = omega arith; behind = simp add-one (omega (arith, passed.behind, e)) }

    -- it stands right here
    pub place_here : place (drop i bytes) ≡ 0 → i ≡ place bytes
    place_here e = omega (arith, passed.behind, e)

    -- none of the bytes left is the place
    pub place_end : place (drop i bytes) ≡ length (drop i bytes) → length bytes ≡ place bytes
    place_end e = omega (arith, passed.behind, e, length-drop i bytes, passed.inside)

-- one byte
module _ (x : ℕ) (bytes : List ℕ) (i : ℕ) where
  pub first-here : i < length bytes → get_or bytes i 0 ≡ x → first_at x (drop i bytes) ≡ 0
  unfolding first_at
  first-here h e = simp (drop-cons bytes i 0 h, eq-eqb _ _ e)

  pub first-later : i < length bytes → (get_or bytes i 0 ≡ x → ⊥) → first_at x (drop i bytes) ≡ suc (first_at x (drop (suc i) bytes))
  unfolding first_at
  first-later h e = simp (drop-cons bytes i 0 h, ne_eqb _ _ e)

  pub first-end : length bytes ≤ i → first_at x (drop i bytes) ≡ length (drop i bytes)
  unfolding first_at
  first-end h = simp (drop_of_length-le bytes h)

-- two bytes
module _ (x y : ℕ) (bytes : List ℕ) (i : ℕ) (h : i + 1 < length bytes) where
  two-left : drop i bytes ≡ get_or bytes i 0 ∷ get_or bytes (suc i) 0 ∷ drop (suc (suc i)) bytes
  two-left = drop-cons bytes i 0 (omega arith) ∙ ap (λ (l : List ℕ). get_or bytes i 0 ∷ l) (drop-cons bytes (suc i) 0 (omega arith))

  one_left : drop (suc i) bytes ≡ get_or bytes (suc i) 0 ∷ drop (suc (suc i)) bytes
  one_left = drop-cons bytes (suc i) 0 (omega arith)

  pub pair-here : get_or bytes i 0 ≡ x → eqb (get_or bytes (i + 1) 0) y ≡ true → pair_at x y (drop i bytes) ≡ 0
  unfolding pair_at
  pair-here a b = simp (two-left, eq-eqb _ _ a, rw add-one at b)

  pub pair-later : (eqb (get_or bytes i 0) x && eqb (get_or bytes (i + 1) 0) y) ≡ false → pair_at x y (drop i bytes) ≡ suc (pair_at x y (drop (suc i) bytes))
  unfolding pair_at
  pair-later e = simp (two-left, one_left, rw add-one at e)

-- fewer than two bytes hold no pair
pub pair-none : (x y : ℕ) (bytes : List ℕ) → length bytes ≤ 1 → pair_at x y bytes ≡ length bytes
unfolding pair_at
pair-none x y [] h = refl
pair-none x y (b ∷ []) h = refl
pair-none x y (b ∷ d ∷ bs) h = absurd (omega arith)

-- the place of one byte is at most the length
pub first-bound : (x : ℕ) (bytes : List ℕ) → first_at x bytes ≤ length bytes
unfolding first_at
first-bound x [] = omega arith
first-bound x (b ∷ bs) = go (eqb b x) (first-bound x bs)
  where
    go : (same : Bool) → first_at x bs ≤ length bs → cond same 0 (suc (first_at x bs)) ≤ suc (length bs)
    go true h = omega arith
    go false h = omega arith

-- so is the place of a pair, which stands whole in the bytes where it stands at all
pub pair-bound : (x y : ℕ) (bytes : List ℕ) → pair_at x y bytes ≤ length bytes
unfolding pair_at
pair-bound x y [] = omega arith
pair-bound x y (b ∷ []) = omega arith
pair-bound x y (b ∷ d ∷ bs) = go (eqb b x && eqb d y) (pair-bound x y (d ∷ bs))
  where
    go : (same : Bool) → pair_at x y (d ∷ bs) ≤ suc (length bs) → cond same 0 (suc (pair_at x y (d ∷ bs))) ≤ suc (suc (length bs))
    go true h = omega arith
    go false h = omega arith

pub pair-whole : (x y : ℕ) (bytes : List ℕ) → pair_at x y bytes < length bytes → pair_at x y bytes + 2 ≤ length bytes
unfolding pair_at
pair-whole x y [] = λ h. absurd (omega arith)
pair-whole x y (b ∷ []) = λ h. absurd (omega arith)
pair-whole x y (b ∷ d ∷ bs) = go (eqb b x && eqb d y) (pair-whole x y (d ∷ bs))
  where
    go :
        (same : Bool)
        → (pair_at x y (d ∷ bs) < suc (length bs) → pair_at x y (d ∷ bs) + 2 ≤ suc (length bs))
        → cond same 0 (suc (pair_at x y (d ∷ bs))) < suc (suc (length bs))
        → cond same 0 (suc (pair_at x y (d ∷ bs))) + 2 ≤ suc (suc (length bs))
    go true h k = omega arith
    go false h k = let w : pair_at x y (d ∷ bs) + 2 ≤ suc (length bs) = h (omega arith) in omega arith
