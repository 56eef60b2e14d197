-- Bytes that do not stand in a line: digits are no separators and no line ends.
use mathlib.Core.Bool.{Bool, true, false, ◌&&◌, not, and_assoc}
use mathlib.Core.List.{List, [], ◌∷◌, ◌++◌, map}
use mathlib.Core.Path.{◌≡◌, refl, ◌∙◌}
use Prim.Native.Nat.{ℕ, ◌≤◌, ◌<◌}
use native.Mathlib.Omega.{arith}
use borrow.Author.Tests.{ne_eqb, not-true}
use lib.Dec.{eqb}
use lib.ListN.{length, length-append}
use Rattle.model.proofs.Laws.Refusal.{both_true, between-true}
use Rattle.text.specs.Numbers.{is_digit_of, all_digits_of}
use Rattle.text.specs.Digits.{digits}
use Rattle.text.specs.Texts.{parted, numbered, lacks}
use Rattle.text.proofs.Laws.DigitsRead.{all_digits, some-digits}

-- the byte x is none of any line's
unfoldable pub all_lack : ℕ → List (List ℕ) → Bool
all_lack x [] = true
all_lack x (line ∷ more) = lacks x line && all_lack x more

-- the first byte of a line that lacks a byte is another, and the others lack it too
pub first-other : (x b : ℕ) (bs : List ℕ) → lacks x (b ∷ bs) ≡ true → (eqb b x ≡ false) × (lacks x bs ≡ true)
unfolding lacks
first-other x b bs e =
    let both = both_true (not (eqb b x)) (lacks x bs) e in
    (not-true (eqb b x) both.0, both.1)

-- bytes behind bytes lack it where both do
pub lacks-append : (x : ℕ) (xs ys : List ℕ) → lacks x (xs ++ ys) ≡ (lacks x xs && lacks x ys)
unfolding lacks
lacks-append x [] ys = refl
lacks-append x (b ∷ bs) ys = simp (lacks-append x bs ys, and_assoc)

-- bytes that are all digits lack every byte below the digits, as separators and line ends are
lacks-digits : (x : ℕ) → x < 48 → (bs : List ℕ) → all_digits_of bs ≡ true → lacks x bs ≡ true
unfolding lacks all_digits_of is_digit_of
lacks-digits x below [] e = refl
lacks-digits x below (b ∷ bs) e =
    let both = both_true (is_digit_of b) (all_digits_of bs) e in
    let digit = between-true 48 57 b both.0 in
    simp (ne_eqb b x (λ same. omega (arith, digit.from)), lacks-digits x below bs both.1)

-- lines made one from each of a list
pub map-lack : (x : ℕ) {A : Type 0} (line : A → List ℕ) → ((a : A) → lacks x (line a) ≡ true) → (all : List A) → all_lack x (map line all) ≡ true
unfolding all_lack
map-lack x line each [] = refl
map-lack x line each (a ∷ more) = simp (each a, map-lack x line each more)

-- Numbers lack a byte below the digits.
module _ (x : ℕ) (below : x < 48) where
  -- one alone
  pub digits-lack : (n : ℕ) → lacks x (digits n) ≡ true
  unfolding digits
  digits-lack n = lacks-digits x below (digits n) (all_digits 20 n)

  -- and some with another byte between them
  pub numbered-lack : (sep : ℕ) → eqb sep x ≡ false → (ns : List ℕ) → lacks x (numbered sep ns) ≡ true
  unfolding numbered parted lacks
  numbered-lack sep other [] = refl
  numbered-lack sep other (n ∷ []) = digits-lack n
  numbered-lack sep other (n ∷ m ∷ more) =
      lacks-append x (digits n) (sep ∷ parted sep (map digits (m ∷ more))) ∙ simp (digits-lack n, other, numbered-lack sep other (m ∷ more))

-- a number holds a byte
pub digits-some : (n : ℕ) → 1 ≤ length (digits n)
unfolding digits
digits-some n = some-digits 19 n

-- and so do some with a separator between them
pub numbered-some : (sep n : ℕ) (more : List ℕ) → 1 ≤ length (numbered sep (n ∷ more))
unfolding numbered parted
numbered-some sep n [] = digits-some n
numbered-some sep n (m ∷ more) = rw length-append (omega arith)
