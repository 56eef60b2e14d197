-- A number in a text: 1 to 10 decimal digits, no leading zero unless it is 0 itself, at most 4,294,967,295.
use Rattle.std.specs.Prelude.{Bool, true, cond, ◌&&◌, ◌||◌, not, List, [], ◌∷◌, Option, Some, None, ℕ, ◌+◌, ◌*◌, ◌-◌, eqb, leb, length, get_or}
use Rattle.model.specs.Refusal.{is_between_of}

-- the digits 0 to 9 are the bytes 48 to 57
unfoldable pub is_digit_of : ℕ → Bool
is_digit_of b = is_between_of 48 57 b

unfoldable pub all_digits_of : List ℕ → Bool
all_digits_of [] = true
all_digits_of (b ∷ bs) = is_digit_of b && all_digits_of bs

-- the value of these digits, which continue a number that was read before them
unfoldable pub decimal : ℕ → List ℕ → ℕ
decimal before [] = before
decimal before (b ∷ bs) = decimal (before * 10 + (b - 48)) bs

abbrev pub max_digits : ℕ
max_digits = 10

abbrev pub max_number : ℕ
max_number = 4294967295

unfoldable pub well_formed : List ℕ → Bool
well_formed bs =
    is_between_of 1 max_digits (length bs) &&
    (all_digits_of bs && ((eqb (length bs) 1 || not (eqb (get_or bs 0 0) 48)) && leb (decimal 0 bs) max_number))

unfoldable pub number_of : List ℕ → Option ℕ
number_of bs = cond (well_formed bs) (Some (decimal 0 bs)) None
