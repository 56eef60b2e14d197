-- What the parts of the reader of reports answer: three lists hold the rows read so far, side by side.
use Rattle.std.specs.Prelude.{List, [], ◌∷◌, ◌++◌, ◌≡◌, ℕ, suc, ◌≤◌, length, take, Result, Ok, Err}
use Rattle.model.specs.Answer.{answer, written}
use Rattle.model.specs.Checks.{sets_over_network_check}
use Rattle.model.specs.Limits.{max_events}
use Rattle.model.specs.Network.{Network}
use Rattle.model.specs.Refusal.{or_else, Check}
use Rattle.model.specs.declared.refusal.Fault.{Fault}
use Rattle.model.specs.declared.refusal.Refusal.{Refusal}
use Rattle.text.specs.Lines.{csv_lines}
use Rattle.text.specs.Reading.{Step, taken, refused, Outcome, read, refused_at, read_lines}
use Rattle.text.specs.EventText.{Row, row, EventState, rows, take_row, event_step, event_end, event_lines}
use Rattle.validate.specs.Part.{with_lengths}
use Rattle.reading.specs.Answers.{entries, rooms_check}
use Rattle.text.specs.Parallel.{beside}
use Rattle.event_reader.specs.declared.events.Row as code

-- a row as the code has it
abbrev pub row_of : code.Row → Row
row_of r = row r.set r.edge r.offset

-- the first count rows of three lists
unfoldable pub rows_in : ℕ → List ℕ → List ℕ → List ℕ → List Row
rows_in count sets edges offsets = take count (beside row sets edges offsets)

-- one more row behind others: it is taken, or refused
unfoldable pub row_after : Result (Unit {0}) Fault → List Row → Row → Step EventState
row_after (Ok done) before r = taken (rows (before ++ (r ∷ [])))
row_after (Err fault) before r = refused fault

-- the check of one more row behind count others, whichever they are
pub record RowChecked (lengths : List ℕ) (count : ℕ) (r : Row) (told : Result (Unit {0}) Fault) : Type 0 where
  pub behind : (before : List Row) → length before ≡ count → take_row (with_lengths lengths) before r ≡ row_after told before r

-- a line behind the first count rows: one more of them, or the refusal
unfoldable pub rows_after : Result (Unit {0}) Fault → ℕ → List ℕ → List ℕ → List ℕ → Step EventState
rows_after (Ok done) count sets edges offsets = taken (rows (rows_in (suc count) sets edges offsets))
rows_after (Err fault) count sets edges offsets = refused fault

-- all lines: the rows at the front of the lists, or the refusal
unfoldable pub all_rows : Result ℕ Refusal → List ℕ → List ℕ → List ℕ → Outcome (List Row)
all_rows (Ok count) sets edges offsets = read (rows_in count sets edges offsets)
all_rows (Err r) sets edges offsets = refused_at r.fault r.place

-- the rows of a report text, behind its header on line 1
pub record EventRows (lengths bytes : List ℕ) (r : Result ℕ Refusal) (sets edges offsets : List ℕ) : Type 0 where
  pub outcome : event_end (read_lines (event_step (with_lengths lengths)) 2 (rows []) (csv_lines bytes)) ≡ all_rows r sets edges offsets
  pub few : entries r ≤ max_events

-- a whole report text
pub record EventsTaken (lengths bytes : List ℕ) (r : Result ℕ Refusal) (sets edges offsets : List ℕ) : Type 0 where
  pub outcome : event_lines (with_lengths lengths) (csv_lines bytes) ≡ all_rows r sets edges offsets
  pub few : entries r ≤ max_events

-- 16, as part of the check of all sets over the network, then 2, or the answer lists filled
unfoldable pub rows_check : Network → List ℕ → List ℕ → List ℕ → List ℕ → List ℕ → List ℕ → Check
rows_check net xs ys zs sets edges offsets = or_else (sets_over_network_check net xs ys zs) (rooms_check (length xs) sets edges offsets)

pub record RowsAnswered (net : Network) (xs ys zs sets edges offsets : List ℕ) (r : Result ℕ Refusal) (sets' edges' offsets' : List ℕ) : Type 0 where
  pub answer : r ≡ answer (rows_check net xs ys zs sets edges offsets) (length xs)
  pub sets_after : sets' ≡ written (rows_check net xs ys zs sets edges offsets) xs sets
  pub edges_after : edges' ≡ written (rows_check net xs ys zs sets edges offsets) ys edges
  pub offsets_after : offsets' ≡ written (rows_check net xs ys zs sets edges offsets) zs offsets
