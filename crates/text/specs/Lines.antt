-- A text's lines. A line end closes a line; what follows the last line end is a line only if it holds a byte.
use Rattle.std.specs.Prelude.{cond, ◌&&◌, List, [], ◌∷◌, ℕ, eqb}

abbrev pub line_feed : ℕ
line_feed = 10

abbrev pub carriage_return : ℕ
carriage_return = 13

-- the line end of a CSV text
abbrev pub line_end_of : List ℕ
line_end_of = carriage_return ∷ line_feed ∷ []

-- the lines with a byte added at the front of the first one; a line of its own where there is none
unfoldable pub in_front : ℕ → List (List ℕ) → List (List ℕ)
in_front b [] = (b ∷ []) ∷ []
in_front b (line ∷ more) = (b ∷ line) ∷ more

-- lines ended by a line feed (networks)
unfoldable pub feed_lines : List ℕ → List (List ℕ)
feed_lines [] = []
feed_lines (b ∷ bs) = cond (eqb b line_feed) ([] ∷ feed_lines bs) (in_front b (feed_lines bs))

-- lines ended by a carriage return and a line feed (CSV); either of them alone is a byte like any other
unfoldable pub csv_lines : List ℕ → List (List ℕ)
csv_lines [] = []
csv_lines (b ∷ []) = (b ∷ []) ∷ []
csv_lines (b ∷ d ∷ bs) = cond (eqb b carriage_return && eqb d line_feed) ([] ∷ csv_lines bs) (in_front b (csv_lines (d ∷ bs)))
