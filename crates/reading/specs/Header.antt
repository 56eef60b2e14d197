-- The header of a CSV text, and the rows behind it.
use Rattle.std.specs.Prelude.{Bool, false, cond, List, [], ◌∷◌, ◌≡◌, Option, Some, None, ℕ}
use Rattle.model.specs.Refusal.{unless, Check, accepted, refusal}
use Rattle.model.specs.declared.refusal.Fault.TheVariants.{NoHeader}
use Rattle.text.specs.Fields.{same_bytes_of}
use Rattle.text.specs.Lines.{csv_lines}
use Rattle.text.specs.NextLine.{csv_line_of}

-- the first line is the header
unfoldable pub is_headed : List ℕ → List (List ℕ) → Bool
is_headed header [] = false
is_headed header (line ∷ more) = same_bytes_of line header

-- 4, at line 1: the first line is not the header, or there is none
unfoldable pub header_check : List ℕ → List ℕ → Check
header_check header bytes = unless (is_headed header (csv_lines bytes)) NoHeader 1

-- the index at which the rows begin, which is that of the second line; none where the header is missing
unfoldable pub header_of : List ℕ → List ℕ → Option ℕ
header_of header bytes = cond (is_headed header (csv_lines bytes)) (Some (csv_line_of bytes).next) None

-- 01's verdict in each case: accepted, or 4 at line 1
unfoldable pub header_verdict : Option ℕ → Check
header_verdict (Some start) = accepted
header_verdict None = refusal NoHeader 1

-- the promise: the answer, and its verdict
pub record HeaderRead (header bytes : List ℕ) (r : Option ℕ) : Type 0 where
  pub answer : r ≡ header_of header bytes
  pub verdict : header_verdict r ≡ header_check header bytes
