-- What the steps of printing do to the list of bytes.
use Rattle.std.specs.Prelude.{List, ◌++◌, Option, Some, None, ◌≡◌, ℕ, ◌+◌, ◌≤◌, length, take, drop}
use Rattle.model.specs.Envelope.{Envelope, no_value, between}
use Rattle.model.specs.Refusal.{Check}
use Rattle.printing.specs.Answers.{rows, table_bytes, columns_check, table_bytes_check}
use Rattle.printing.specs.declared.table.Columns.{Columns}
use Rattle.printing.specs.declared.table.Extremes.{Extremes}

-- the list with these bytes in it from a place on
unfoldable pub with_bytes : List ℕ → ℕ → List ℕ → List ℕ
with_bytes out place bytes = take place out ++ (bytes ++ drop (place + length bytes) out)

-- these bytes end inside the list
unfoldable pub Room : List ℕ → ℕ → List ℕ → Type 0
Room out place bytes = place + length bytes ≤ length out

-- the bytes stand from a place on, r is the place behind them, and nothing else is changed
pub record Put (out : List ℕ) (place : ℕ) (bytes out' : List ℕ) (r : ℕ) : Type 0 where
  pub after : out' ≡ with_bytes out place bytes
  pub next : r ≡ place + length bytes

-- least and greatest, where there are comparison sets
unfoldable pub envelope_given : Option Extremes → Envelope
envelope_given None = no_value
envelope_given (Some e) = between e.least e.greatest

-- the columns as they are lent: their rows, the bytes of their table, the check of their lengths, and that of the table
abbrev pub rows_of : Columns → List ℕ
rows_of c = rows c.comparisons c.thresholds.now c.observed.now c.lower.now c.upper.now 0 (length c.thresholds.now)

abbrev pub bytes_of : Columns → List ℕ
bytes_of c = table_bytes c.comparisons c.thresholds.now c.observed.now c.lower.now c.upper.now

abbrev pub check_of : Columns → Check
check_of c = columns_check c.comparisons c.thresholds.now c.observed.now c.lower.now c.upper.now

abbrev pub table_check_of : Columns → List ℕ → Check
table_check_of c out = table_bytes_check c.comparisons c.thresholds.now c.observed.now c.lower.now c.upper.now out
