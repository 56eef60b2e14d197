-- The rows of a report text, line by line into three lists.
use Rattle.std.specs.Prelude.{Result, Ok, Err}
use Rattle.model.specs.declared.refusal.Fault.{Fault}
use Rattle.model.specs.declared.refusal.Refusal.{Refusal}
use Rattle.model.specs.declared.refusal.Fault.TheVariants.{NoHeader}
use mathlib.Core.Bool.{false}
use mathlib.Core.List.{List, [], ◌∷◌}
use mathlib.Core.Path.{◌≡◌, refl, ◌∙◌}
use Prim.Native.Nat.{ℕ, suc, ◌+◌, ◌≤◌, ◌<◌}
use native.Mathlib.Numerals.{add-one}
use native.Mathlib.Omega.{arith}
use lib.ListN.{length, take}
use Rattle.model.specs.Limits.{max_events}
use Rattle.model.specs.Network.{Network}
use Rattle.text.specs.Fields.{same_bytes_of}
use Rattle.text.specs.Lines.{csv_lines}
use Rattle.text.proofs.Laws.Lines.{NextLine}
use Rattle.text.specs.Reading.{taken, refused, refused_at, read_lines, require}
use Rattle.text.specs.EventText.{Row, EventState, before_header, rows, take_numbers_of, event_step, event_end, event_lines, event_header, row}
use Rattle.text.specs.declared.fields.Numbers.{Numbers}
use Rattle.text.specs.declared.fields.Numbers.TheVariants.{Nothing, One, Two, Three}
use Rattle.validate.specs.Part.{with_lengths}
use Rattle.reading.specs.Header.{is_headed}
use Rattle.reading.proofs.Headed.{RowsAt, no_lines, rows_left, no_rows, rows_are}
use Rattle.text.specs.Parallel.{Level}
use Rattle.reading.specs.Answers.{entries}
use Rattle.reading.proofs.Progress.{Progress, rest, begins, goes_on, stops, all_read}
use Rattle.event_reader.specs.Steps.{rows_in, rows_after, all_rows, EventRows, EventsTaken}
use Rattle.event_reader.proofs.RowSteps.{RowTaken, row-taken, rows-length}

-- the row of a line that is taken
pub line_taken : (net : Network) (before : List Row) (numbers : Numbers) {s : EventState} → take_numbers_of net before numbers ≡ taken s → (r : Row) × RowTaken net before r s
unfolding take_numbers_of
line_taken net before Nothing e = absurd (let z : ◌≡◌ {A = ℕ} 0 1 = cc in omega arith)
line_taken net before (One x) e = absurd (let z : ◌≡◌ {A = ℕ} 0 1 = cc in omega arith)
line_taken net before (Two x y) e = absurd (let z : ◌≡◌ {A = ℕ} 0 1 = cc in omega arith)
line_taken net before (Three s e x) t = (row s e x, row-taken net before (row s e x) t)

-- the loop has read count rows into the lists and stands at a byte
pub record RowsSoFar (lengths bytes sets edges offsets : List ℕ) (at count : ℕ) : Type 0 where
  pub few : count ≤ max_events
  pub level : Level max_events sets edges offsets
  pub progress : Progress csv_lines (event_step (with_lengths lengths)) 2 (rows []) bytes (rows (rows_in count sets edges offsets)) at (count + 2)

pub rows-begin : (lengths bytes sets edges offsets : List ℕ) → Level max_events sets edges offsets → RowsSoFar lengths bytes sets edges offsets 0 0
unfolding rows_in
rows-begin lengths bytes sets edges offsets l =
    record { few = omega arith; level = l; progress = begins csv_lines (event_step (with_lengths lengths)) 2 (rows []) bytes }

-- A row, from what a line's step answers.
module _ {lengths bytes sets edges offsets : List ℕ} {at count : ℕ} (t : RowsSoFar lengths bytes sets edges offsets at count) {end onward : ℕ} (h : at < length bytes) (n : NextLine csv_lines (rest bytes at) end onward) {r : Result (Unit {0}) Fault} {sets' edges' offsets' : List ℕ} (e : event_step (with_lengths lengths) (rows (rows_in count sets edges offsets)) (take end (rest bytes at)) ≡ rows_after r count sets' edges' offsets') where
  -- it is taken
  pub one-taken : r ≡ Ok tt → Level max_events sets' edges' offsets' → RowsSoFar lengths bytes sets' edges' offsets' (at + onward) (count + 1)
  unfolding rows_after event_step
  one-taken is level =
      let after : event_step (with_lengths lengths) (rows (rows_in count sets edges offsets)) (take end (rest bytes at)) ≡ taken (rows (rows_in (suc count) sets' edges' offsets')) = e ∙ rw is in
      let room = (line_taken _ _ _ after).1.few in
      record {
        few = omega (arith, room, rows-length count t.level t.few);
        level = level;
        progress = goes_on t.progress h n (rw add-one after) (omega arith);
      }

  -- it is refused
  pub one-refused : {fault : Fault} → r ≡ Err fault → EventRows lengths bytes (Err (record { fault = fault; place = count + 2 })) sets' edges' offsets'
  unfolding rows_after all_rows event_end entries
  one-refused {fault} is =
      let after : event_step (with_lengths lengths) (rows (rows_in count sets edges offsets)) (take end (rest bytes at)) ≡ refused fault = e ∙ rw is in
      record { outcome = rw (stops t.progress h n after); few = omega arith }

-- all rows are read
pub rows_end : {lengths bytes sets edges offsets : List ℕ} {at count : ℕ} → RowsSoFar lengths bytes sets edges offsets at count → length bytes ≤ at → EventRows lengths bytes (Ok count) sets edges offsets
unfolding all_rows event_end entries
rows_end t end = record { outcome = rw (all_read t.progress no_lines end); few = t.few }

-- the first step asks for the header
asks : (net : Network) (line : List ℕ) → event_step net before_header line ≡ require (same_bytes_of line event_header) NoHeader (taken (rows []))
unfolding event_step
asks net line = refl

no-header : (net : Network) (lines : List (List ℕ)) → is_headed event_header lines ≡ false → event_lines net lines ≡ refused_at NoHeader 1
unfolding event_lines event_end read_lines
no-header net [] e = refl
no-header net (line ∷ more) e = rw (no_rows event_header (event_step net) before_header (rows []) (asks net) line more e)

-- a text with no header is refused
pub text-refused : (lengths bytes sets edges offsets : List ℕ) → is_headed event_header (csv_lines bytes) ≡ false → EventsTaken lengths bytes (Err (record { fault = NoHeader; place = 1 })) sets edges offsets
unfolding all_rows entries
text-refused lengths bytes sets edges offsets e = record { outcome = no-header (with_lengths lengths) (csv_lines bytes) e; few = omega arith }

-- a text comes to what its rows come to
pub text-taken : {lengths bytes sets edges offsets : List ℕ} {n : ℕ} {r : Result ℕ Refusal} → RowsAt event_header bytes n → EventRows lengths (rest bytes n) r sets edges offsets → EventsTaken lengths bytes r sets edges offsets
unfolding event_lines
text-taken {lengths} {bytes} h t =
    record {
      outcome = rw (rows_left event_header (event_step (with_lengths lengths)) before_header (rows []) (asks (with_lengths lengths)) (csv_lines bytes) h.headed, ← rows_are event_header bytes h) t.outcome;
      few = t.few;
    }
