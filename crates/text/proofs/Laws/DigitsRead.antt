-- Reading what was printed gives the number back.
use mathlib.Core.Bool.{true, ◌&&◌, ◌||◌, not, and_assoc, or-true}
use mathlib.Core.List.{List, [], ◌∷◌, ◌++◌}
use mathlib.Core.Path.{◌≡◌, refl}
use Prim.Native.Nat.{ℕ, zero, suc, ◌+◌, ◌*◌, ◌-◌, ◌/◌, ◌%◌, ◌^◌, ◌≤◌, ◌<◌}
use native.Mathlib.Omega.{arith}
use borrow.Author.Tests.{le-leb, ne_eqb}
use lib.Dec.{eqb}
use lib.ListN.{length, get_or, get_or-append}
use Rattle.std.proofs.Common.{Some}
use Rattle.model.proofs.Laws.Refusal.{true-between}
use Rattle.model.specs.Refusal.{is_between_of}
use Rattle.text.specs.Numbers.{is_digit_of, all_digits_of, decimal, max_digits, max_number, well_formed, number_of}
use Rattle.text.specs.Digits.{last_digits, digits}
use Rattle.text.proofs.Laws.Digits.{one-digit, more-digits, small-or-not, length_more, div_below}

-- bytes behind bytes are all digits where both are
all-digits-append : (xs ys : List ℕ) → all_digits_of (xs ++ ys) ≡ (all_digits_of xs && all_digits_of ys)
unfolding all_digits_of
all-digits-append [] ys = refl
all-digits-append (x ∷ xs) ys = simp (all-digits-append xs ys, and_assoc)

one-all-digits : (d : ℕ) → d < 10 → all_digits_of ((48 + d) ∷ []) ≡ true
unfolding all_digits_of is_digit_of
one-all-digits d h = simp (true-between 48 57 (48 + d) (omega arith) (omega arith))

-- digits are digits
pub all_digits : (more n : ℕ) → all_digits_of (last_digits more n) ≡ true
unfolding last_digits all_digits_of
all_digits zero n = refl
all_digits (suc more) n = small-or-not n
    (λ h. rw (one-digit more n h) (one-all-digits n h))
    (λ h. rw (more-digits more n h) (simp (all-digits-append, all_digits more (n / 10), one-all-digits (n % 10) (omega arith))))

-- one digit more behind a number
decimal-append : (before : ℕ) (xs : List ℕ) (d : ℕ) → decimal before (xs ++ (d ∷ [])) ≡ decimal before xs * 10 + (d - 48)
unfolding decimal
decimal-append before [] d = refl
decimal-append before (x ∷ xs) d = decimal-append (before * 10 + (x - 48)) xs d

-- the digits of a number that has no more of them stand for it
decimal-digits : (more n : ℕ) → n < 10 ^ more → decimal 0 (last_digits more n) ≡ n
unfolding last_digits decimal
decimal-digits zero n h = omega arith
decimal-digits (suc more) n h = small-or-not n
    (λ s. rw (one-digit more n s) (omega arith))
    (λ g. rw (more-digits more n g, decimal-append, decimal-digits more (n / 10) (div_below n more h)) (omega arith))

-- no more digits than the power of ten above the number has zeros
few-digits : (more k n : ℕ) → n < 10 ^ suc k → length (last_digits more n) ≤ suc k
unfolding last_digits
few-digits zero k n h = omega arith
few-digits (suc more) zero n h = rw (one-digit more n (omega arith)) (omega arith)
few-digits (suc more) (suc k) n h = small-or-not n
    (λ s. rw (one-digit more n s) (omega arith))
    (λ g. rw (length_more more n g) (omega (arith, few-digits more k (n / 10) (div_below n (suc k) h))))

-- there is a digit at least
pub some-digits : (more n : ℕ) → 1 ≤ length (last_digits (suc more) n)
some-digits more n = small-or-not n (λ s. rw (one-digit more n s) (omega arith)) (λ g. rw (length_more more n g) (omega arith))

-- the first digit of a number other than 0 is not 0
first-digit : (more n : ℕ) → 1 ≤ n → n < 10 ^ more → 48 < get_or (last_digits more n) 0 0
first-digit zero n l h = absurd (omega arith)
first-digit (suc zero) n l h = rw (one-digit 0 n (omega arith)) (omega arith)
first-digit (suc (suc more)) n l h = small-or-not n
    (λ s. rw (one-digit (suc more) n s) (omega arith))
    (λ g. rw (more-digits (suc more) n g, get_or-append (last_digits (suc more) (n / 10)) ((48 + n % 10) ∷ []) 0 0 (some-digits more (n / 10)))
    (first-digit (suc more) (n / 10) (omega arith) (div_below n (suc more) h)))

-- Every number of 64 bits.
module _ (n : ℕ) (small : n < 2 ^ 64) where
  -- its digits stand for it
  pub digits-worth : decimal 0 (digits n) ≡ n
  unfolding digits
  digits-worth = decimal-digits 20 n (omega arith)

  -- and have no zero in front unless it is the number
  pub no-needless-zero : (eqb (length (digits n)) 1 || not (eqb (get_or (digits n) 0 0) 48)) ≡ true
  unfolding digits
  no-needless-zero = small-or-not n
      (λ s. simp (one-digit 19 n s))
      (λ g.
      let first : 48 < get_or (last_digits 20 n) 0 0 = first-digit 20 n (omega arith) (omega arith) in
      simp (ne_eqb (get_or (last_digits 20 n) 0 0) 48 (λ e. omega arith), or-true))

-- A number that a text may have is read back.
module _ (n : ℕ) (small : n ≤ max_number) where
  -- 1 to 10 digits
  digit-count : is_between_of 1 max_digits (length (digits n)) ≡ true
  unfolding digits
  digit-count = true-between 1 10 (length (last_digits 20 n)) (some-digits 19 n) (few-digits 20 9 n (omega arith))

  pub read_back : number_of (digits n) ≡ Some n
  unfolding number_of well_formed digits
  read_back = simp (digit-count, all_digits 20 n, no-needless-zero n (omega arith), digits-worth n (omega arith), le-leb n max_number small)
