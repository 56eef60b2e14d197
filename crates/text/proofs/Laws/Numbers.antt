-- Laws of numbers: what is known while the digits of a field are read, and the bound of a number that was read.
use mathlib.Core.Bool.{Bool, true, false, cond, ◌&&◌, ◌||◌, not, and-false}
use mathlib.Core.List.{List, [], ◌∷◌}
use mathlib.Core.Path.{◌≡◌, refl, ◌∙◌}
use Prim.Native.Nat.{ℕ, suc, ◌+◌, ◌*◌, ◌-◌, ◌≤◌, ◌<◌}
use native.Mathlib.Numerals.{add-one}
use native.Mathlib.Omega.{arith}
use borrow.Author.Tests.{le-leb, lt-leb, leb-true}
use lib.Dec.{leb, eqb}
use lib.ListN.{length, get_or, drop, drop_of_length-le}
use lib.Seq.{drop-cons}
use Rattle.std.proofs.Common.{Option, Some, None}
use Rattle.model.specs.Refusal.{is_between_of}
use Rattle.text.specs.Numbers.{is_digit_of, all_digits_of, decimal, max_digits, max_number, well_formed, number_of}

-- digits behind a number never make it less
pub decimal-grows : (before : ℕ) (bs : List ℕ) → before ≤ decimal before bs
unfolding decimal
decimal-grows before [] = omega arith
decimal-grows before (b ∷ bs) = omega (arith, decimal-grows (before * 10 + (b - 48)) bs)

-- what bytes stand for, where all are digits and the number is not above the limit
abbrev pub value_of : List ℕ → Option ℕ
value_of bs = cond (all_digits_of bs && leb (decimal 0 bs) max_number) (Some (decimal 0 bs)) None

-- the bytes before i are digits, and stand for value
pub record ReadSoFar (field : List ℕ) (value i : ℕ) : Type 0 where
  pub inside : i ≤ length field
  pub small : value ≤ max_number
  pub digits : all_digits_of field ≡ all_digits_of (drop i field)
  pub worth : decimal 0 field ≡ decimal value (drop i field)

module _ {field : List ℕ} {value i : ℕ} (so_far : ReadSoFar field value i) where
  -- the end: all bytes were read
  pub all_read : length field ≤ i → Some value ≡ value_of field
  unfolding all_digits_of decimal
  all_read h = simp (so_far.digits, so_far.worth, drop_of_length-le field h, le-leb _ _ so_far.small)

  -- one more byte is read, which is worth d where it is a digit
  module _ (h : i < length field) where
    left : drop i field ≡ get_or field i 0 ∷ drop (suc i) field
    left = drop-cons field i 0 h

    pub no_digit : is_digit_of (get_or field i 0) ≡ false → None ≡ value_of field
    unfolding all_digits_of
    no_digit e = simp (so_far.digits, left, e)

    module _ {d : ℕ} (digit : is_digit_of (get_or field i 0) ≡ true) (worth : d ≡ get_or field i 0 - 48) where
      more-worth : decimal 0 field ≡ decimal (value * 10 + d) (drop (suc i) field)
      unfolding decimal
      more-worth = so_far.worth ∙ rw worth (simp left)

      pub too-great : max_number < value * 10 + d → None ≡ value_of field
      too-great great =
          let over : max_number < decimal 0 field = rw more-worth (omega (arith, decimal-grows (value * 10 + d) (drop (suc i) field))) in
          simp (lt-leb _ _ over, and-false)

      pub one_more : value * 10 + d ≤ max_number → ReadSoFar field (value * 10 + d) (i + 1)
      unfolding all_digits_of
      one_more fits = record {
        inside = omega arith;
        small = fits;
        digits = so_far.digits ∙ simp (add-one, left, digit);
        worth = simp add-one more-worth;
      }

-- the shape of a field and its value together are the number
pub number_of-parts : (bs : List ℕ) (shape : Bool) → shape ≡ (is_between_of 1 max_digits (length bs) && (eqb (length bs) 1 || not (eqb (get_or bs 0 0) 48))) → number_of bs ≡ cond shape (value_of bs) None
unfolding number_of well_formed
number_of-parts bs shape e = rw e (regroup (is_between_of 1 max_digits (length bs)) (all_digits_of bs) (eqb (length bs) 1 || not (eqb (get_or bs 0 0) 48)) (leb (decimal 0 bs) max_number) (Some (decimal 0 bs)))
  where
    regroup : (a b c d : Bool) (x : Option ℕ) → cond (a && (b && (c && d))) x None ≡ cond (a && c) (cond (b && d) x None) None
    regroup false b c d x = refl
    regroup true false false d x = refl
    regroup true false true d x = refl
    regroup true true false d x = refl
    regroup true true true d x = refl

-- the second of two tests that both pass
second-passes : (a b : Bool) → (a && b) ≡ true → b ≡ true
second-passes true b e = e
second-passes false false e = e
second-passes false true e = refl

-- a number that was read is at most the limit
pub number_bound : (bs : List ℕ) (x : ℕ) → number_of bs ≡ Some x → x ≤ max_number
unfolding number_of well_formed
number_bound bs x = go (well_formed bs) refl
  where
    first : Bool
    first = eqb (length bs) 1 || not (eqb (get_or bs 0 0) 48)

    go : (well : Bool) → well_formed bs ≡ well → cond well (Some (decimal 0 bs)) None ≡ Some x → x ≤ max_number
    go true w e =
        let within : leb (decimal 0 bs) max_number ≡ true = second-passes first _ (second-passes (all_digits_of bs) _ (second-passes (is_between_of 1 max_digits (length bs)) _ w)) in
        let same : decimal 0 bs ≡ x = cc in
        omega (arith, leb-true (decimal 0 bs) max_number within)
    go false w e = let z : ◌≡◌ {A = ℕ} 0 1 = cc in absurd (omega arith)
