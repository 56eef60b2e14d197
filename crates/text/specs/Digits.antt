-- A number as it is written: its decimal digits without needless zeros.
use Rattle.std.specs.Prelude.{cond, List, [], ◌∷◌, ◌++◌, ℕ, zero, suc, ◌+◌, ◌/◌, ◌%◌, ltb}

-- the last so many digits of a number, fewer where it has fewer; the digits 0 to 9 are the bytes 48 to 57
unfoldable pub last_digits : ℕ → ℕ → List ℕ
last_digits zero n = []
last_digits (suc more) n = cond (ltb n 10) ((48 + n) ∷ []) (last_digits more (n / 10) ++ ((48 + n % 10) ∷ []))

-- the decimal digits of a number that has at most 20 of them, as every number of 64 bits does
unfoldable pub digits : ℕ → List ℕ
digits n = last_digits 20 n
