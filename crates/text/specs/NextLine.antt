-- The first line of what is left of a text: where it ends, and where the next one begins.
use Rattle.std.specs.Prelude.{ℕ, ◌+◌, min, List, length}
use Rattle.text.specs.Lines.{line_feed, carriage_return}
use Rattle.text.specs.Places.{first_at, pair_at}
use Rattle.text.specs.declared.lines.Line.{Line}

abbrev pub line : ℕ → ℕ → Line
line end next = record { end = end; next = next }

-- the first line, from the index of its end and the width of a line end, which the last line may lack
unfoldable pub line_to : ℕ → ℕ → List ℕ → Line
line_to end width rest = line end (min (end + width) (length rest))

-- ended by a line feed, or by the text's end
unfoldable pub feed_line_of : List ℕ → Line
feed_line_of rest = line_to (first_at line_feed rest) 1 rest

-- ended by a carriage return and a line feed, or by the text's end
unfoldable pub csv_line_of : List ℕ → Line
csv_line_of rest = line_to (pair_at carriage_return line_feed rest) 2 rest
