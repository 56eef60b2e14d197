-- A line's fields, and the lines that hold one, two or three numbers.
use Rattle.std.specs.Prelude.{Bool, true, false, cond, ◌&&◌, List, [], ◌∷◌, Option, Some, None, ℕ, eqb, length, take}
use Rattle.text.specs.Lines.{in_front}
use Rattle.text.specs.Numbers.{number_of}
use Rattle.text.specs.declared.fields.Numbers.{Numbers}
use Rattle.text.specs.declared.fields.Numbers.TheVariants.{Nothing, One, Two, Three}

-- the separators: of a CSV line, and of a line of a network text
abbrev pub comma : ℕ
comma = 44

abbrev pub space : ℕ
space = 32

-- the fields of a line, parted by one separator: one more than it has separators
unfoldable pub fields : ℕ → List ℕ → List (List ℕ)
fields sep [] = [] ∷ []
fields sep (b ∷ bs) = cond (eqb b sep) ([] ∷ fields sep bs) (in_front b (fields sep bs))

-- the two lists hold the same bytes
unfoldable pub same_bytes_of : List ℕ → List ℕ → Bool
same_bytes_of [] [] = true
same_bytes_of [] (d ∷ ds) = false
same_bytes_of (b ∷ bs) [] = false
same_bytes_of (b ∷ bs) (d ∷ ds) = eqb b d && same_bytes_of bs ds

-- the line begins with these bytes
unfoldable pub begins_with_of : List ℕ → List ℕ → Bool
begins_with_of bytes line = same_bytes_of (take (length bytes) line) bytes

-- three numbers, two or one; `Nothing` where one of them is no number
unfoldable pub of_three : Option ℕ → Option ℕ → Option ℕ → Numbers
of_three None b c = Nothing
of_three (Some x) None c = Nothing
of_three (Some x) (Some y) None = Nothing
of_three (Some x) (Some y) (Some z) = Three x y z

unfoldable pub of_two : Option ℕ → Option ℕ → Numbers
of_two None b = Nothing
of_two (Some x) None = Nothing
of_two (Some x) (Some y) = Two x y

unfoldable pub of_one : Option ℕ → Numbers
of_one None = Nothing
of_one (Some x) = One x

-- the numbers of a line of one, two or three fields; `Nothing` where a field is no number, or there are more fields
unfoldable pub numbers_in : List (List ℕ) → Numbers
numbers_in [] = Nothing
numbers_in (a ∷ []) = of_one (number_of a)
numbers_in (a ∷ b ∷ []) = of_two (number_of a) (number_of b)
numbers_in (a ∷ b ∷ c ∷ []) = of_three (number_of a) (number_of b) (number_of c)
numbers_in (a ∷ b ∷ c ∷ d ∷ more) = Nothing
