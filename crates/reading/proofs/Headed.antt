-- A CSV text's header: where it is found the rows are left, where it is missing the text is refused at line 1.
use mathlib.Core.Bool.{Bool, true, false, cond, false≢true}
use mathlib.Core.List.{List, [], ◌∷◌}
use mathlib.Core.Path.{◌≡◌, refl, sym, ap, ◌∙◌}
use Prim.Native.Nat.{ℕ, suc, ◌≤◌}
use native.Mathlib.Omega.{arith}
use lib.ListN.{length, take, drop}
use Rattle.std.specs.Prelude.{Option, Some, None}
use Rattle.model.specs.Refusal.{unless}
use Rattle.model.specs.declared.refusal.Fault.TheVariants.{NoHeader}
use Rattle.text.specs.Fields.{same_bytes_of}
use Rattle.text.specs.Lines.{csv_lines}
use Rattle.text.specs.NextLine.{csv_line_of}
use Rattle.text.specs.declared.lines.Line.{Line}
use Rattle.text.proofs.Laws.Lines.{csv-next}
use Rattle.text.specs.Reading.{Step, taken, refused_at, read_lines, require, next}
use Rattle.reading.specs.Header.{is_headed, header_check, header_of, header_verdict, HeaderRead}
use Rattle.reading.proofs.Progress.{rest, rest-is}
use Rattle.reading.proofs.Require.{holds, fails}

-- no bytes, no line
pub no_lines : csv_lines [] ≡ []
unfolding csv_lines
no_lines = refl

-- the lines behind the first one
unfoldable pub behind_first : List (List ℕ) → List (List ℕ)
behind_first [] = []
behind_first (line ∷ more) = more

-- the first line is the header, and the rows begin at byte n
pub record RowsAt (header bytes : List ℕ) (n : ℕ) : Type 0 where
  pub headed : is_headed header (csv_lines bytes) ≡ true
  pub within : n ≤ length bytes
  pub rows : csv_lines (drop n bytes) ≡ behind_first (csv_lines bytes)

-- the answer by cases
by-header : (header bytes : List ℕ) {headed : Bool} → is_headed header (csv_lines bytes) ≡ headed → header_of header bytes ≡ cond headed (Some (csv_line_of bytes).next) None
unfolding header_of
by-header header bytes {headed = true} e = rw e
by-header header bytes {headed = false} e = rw e

-- a text with no byte has no header
pub no_text : (header bytes : List ℕ) → length bytes ≡ 0 → None ≡ header_of header bytes
unfolding csv_lines is_headed header_of
no_text header [] e = refl
no_text header (b ∷ bytes) e = absurd (omega arith)

module _ (header bytes : List ℕ) {line : Line} (some : 1 ≤ length bytes) (is : line ≡ csv_line_of bytes) where
  -- whether the first line is the header
  headed-is : is_headed header (csv_lines bytes) ≡ same_bytes_of (take line.end bytes) header
  unfolding is_headed
  headed-is = ap (is_headed header) ((csv-next is).parts some)

  pub header-missing : same_bytes_of (take line.end bytes) header ≡ false → None ≡ header_of header bytes
  header-missing e = sym (by-header header bytes (headed-is ∙ e))

  pub header-found : same_bytes_of (take line.end bytes) header ≡ true → Some line.next ≡ header_of header bytes
  header-found e = ap (λ (l : Line). Some l.next) is ∙ sym (by-header header bytes (headed-is ∙ e))

-- the verdict that goes with the answer
pub header_read : (header bytes : List ℕ) {r : Option ℕ} → r ≡ header_of header bytes → HeaderRead header bytes r
unfolding header_verdict header_check unless
header_read header bytes {r} answer = go (is_headed header (csv_lines bytes)) refl
  where
    go : (headed : Bool) → is_headed header (csv_lines bytes) ≡ headed → HeaderRead header bytes r
    go true e = record { answer = answer; verdict = rw (answer ∙ by-header header bytes e, e) }
    go false e = record { answer = answer; verdict = rw (answer ∙ by-header header bytes e, e) }

-- a headed text has a byte, and the lines behind its first one are the rest
some_bytes : (header bytes : List ℕ) → is_headed header (csv_lines bytes) ≡ true → 1 ≤ length bytes
unfolding csv_lines is_headed
some_bytes header [] e = absurd (false≢true e)
some_bytes header (b ∷ bytes) e = omega arith

rest-behind : {lines more : List (List ℕ)} {line : List ℕ} → lines ≡ line ∷ more → behind_first lines ≡ more
unfolding behind_first
rest-behind e = rw e

-- What a caller learns of a header that was found, and of one that is missing.
pub rows-found : {header bytes : List ℕ} {r : Option ℕ} {n : ℕ} → HeaderRead header bytes r → r ≡ Some n → RowsAt header bytes n
rows-found {header} {bytes} {r} {n} read found = go (is_headed header (csv_lines bytes)) refl
  where
    go : (headed : Bool) → is_headed header (csv_lines bytes) ≡ headed → RowsAt header bytes n
    go false e = absurd (let z : ◌≡◌ {A = ℕ} 0 1 = cc (read.answer, by-header header bytes e) in omega arith)
    go true e =
        let at : n ≡ (csv_line_of bytes).next = cc (read.answer, by-header header bytes e) in
        let line = csv-next {rest = bytes} refl in
        rw at (record { headed = e; within = line.inside; rows = sym (rest-behind (line.parts (some_bytes header bytes e))) })

pub none_found : (header bytes : List ℕ) {r : Option ℕ} → HeaderRead header bytes r → r ≡ None → is_headed header (csv_lines bytes) ≡ false
none_found header bytes {r} read missing = go (is_headed header (csv_lines bytes)) refl
  where
    go : (headed : Bool) → is_headed header (csv_lines bytes) ≡ headed → headed ≡ false
    go false e = refl
    go true e = absurd (let z : ◌≡◌ {A = ℕ} 0 1 = cc (read.answer, by-header header bytes e) in omega arith)

-- A reading whose first step asks for the header.
module _ {State : Type 0} (header : List ℕ) (step : State → List ℕ → Step State) (start first : State) (asks : (line : List ℕ) → step start line ≡ require (same_bytes_of line header) NoHeader (taken first)) where
  -- the rows are read from line 2 on
  pub rows_left : (lines : List (List ℕ)) → is_headed header lines ≡ true → read_lines step 1 start lines ≡ read_lines step 2 first (behind_first lines)
  unfolding is_headed behind_first read_lines next
  rows_left [] e = absurd (false≢true e)
  rows_left (line ∷ more) e = rw (asks line ∙ holds NoHeader e refl)

  -- refused at line 1
  pub no_rows : (line : List ℕ) (more : List (List ℕ)) → is_headed header (line ∷ more) ≡ false → read_lines step 1 start (line ∷ more) ≡ refused_at NoHeader 1
  unfolding is_headed read_lines next
  no_rows line more e = rw (asks line ∙ fails NoHeader (taken first) e)

-- a headed text has one line more than it has rows
pub one-line-more : (header : List ℕ) (lines : List (List ℕ)) → is_headed header lines ≡ true → length lines ≡ suc (length (behind_first lines))
unfolding is_headed behind_first
one-line-more header [] e = absurd (false≢true e)
one-line-more header (line ∷ more) e = refl

-- the rows, as a part of the text that is lent
pub rows_are : (header bytes : List ℕ) {n : ℕ} → RowsAt header bytes n → csv_lines (rest bytes n) ≡ behind_first (csv_lines bytes)
rows_are header bytes {n} r = ap csv_lines (rest-is bytes n) ∙ r.rows
