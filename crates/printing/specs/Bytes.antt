-- Printed lines, byte by byte: numbers as their digits, fields parted by commas, every line ended by carriage return and line feed.
use Rattle.std.specs.Prelude.{List, [], ◌∷◌, ◌++◌, ℕ}
use Rattle.model.specs.Envelope.{Envelope, no_value, between}
use Rattle.text.specs.Digits.{digits}
use Rattle.text.specs.Fields.{comma}
use Rattle.text.specs.Lines.{line_end_of}

-- the bytes of `threshold,observed,least,greatest`
abbrev pub header : List ℕ
header = 116 ∷ 104 ∷ 114 ∷ 101 ∷ 115 ∷ 104 ∷ 111 ∷ 108 ∷ 100 ∷ 44 ∷ 111 ∷ 98 ∷ 115 ∷ 101 ∷ 114 ∷ 118 ∷ 101 ∷ 100 ∷ 44 ∷ 108 ∷ 101 ∷ 97 ∷ 115 ∷ 116 ∷ 44 ∷ 103 ∷ 114 ∷ 101 ∷ 97 ∷ 116 ∷ 101 ∷ 115 ∷ 116 ∷ []

-- least and greatest, or two empty fields
unfoldable pub span : Envelope → List ℕ
span no_value = comma ∷ []
span (between lower upper) = digits lower ++ (comma ∷ digits upper)

-- one row of the table
unfoldable pub row : ℕ → ℕ → Envelope → List ℕ
row threshold observed envelope = digits threshold ++ (comma ∷ digits observed ++ (comma ∷ span envelope ++ line_end_of))

-- the bytes of `refused,`
abbrev pub refused_word : List ℕ
refused_word = 114 ∷ 101 ∷ 102 ∷ 117 ∷ 115 ∷ 101 ∷ 100 ∷ 44 ∷ []

-- the line `refused,FILE,NUMBER,PLACE`
unfoldable pub refusal_line : List ℕ → ℕ → ℕ → List ℕ
refusal_line file number place = refused_word ++ (file ++ (comma ∷ digits number ++ (comma ∷ digits place ++ line_end_of)))
