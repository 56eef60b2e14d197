-- What the reader of reports answers and leaves in the answer lists, in 01's checking order: 1; the faults of the lent network;
-- the first bad line; 16; 2 last, for answer lists too short.
use Rattle.std.specs.Prelude.{List, map, ◌≡◌, ℕ, length, Result}
use Rattle.model.specs.Answer.{answer, written}
use Rattle.model.specs.Checks.{network_check, equal_sets_check}
use Rattle.model.specs.Network.{Network}
use Rattle.model.specs.Refusal.{or_else, Check}
use Rattle.model.specs.declared.refusal.Refusal.{Refusal}
use Rattle.text.specs.Lines.{csv_lines}
use Rattle.text.specs.Reading.{length_check}
use Rattle.text.specs.EventText.{Row, event_lines}
use Rattle.reading.specs.Answers.{check_of, list_in, rooms_check}

unfoldable pub text_rows : Network → List ℕ → List Row
text_rows net bytes = list_in (event_lines net (csv_lines bytes))

-- the text over the lent network: 1, the network's faults, the first bad line, 16
unfoldable pub event_file_check : Network → List ℕ → Check
event_file_check net bytes =
    or_else (length_check bytes)
    (or_else (network_check net)
    (or_else (check_of (event_lines net (csv_lines bytes))) (equal_sets_check (map (λ r. r.set) (text_rows net bytes)))))

-- the text, then 2
unfoldable pub event_text_check : Network → List ℕ → List ℕ → List ℕ → List ℕ → Check
event_text_check net bytes sets edges offsets =
    or_else (event_file_check net bytes) (rooms_check (length (text_rows net bytes)) sets edges offsets)

-- the promise: the answer, and the three answer lists before and after
pub record EventsRead (net : Network) (bytes sets edges offsets : List ℕ) (r : Result ℕ Refusal) (sets' edges' offsets' : List ℕ) : Type 0 where
  pub answer : r ≡ answer (event_text_check net bytes sets edges offsets) (length (text_rows net bytes))
  pub sets_after : sets' ≡ written (event_text_check net bytes sets edges offsets) (map (λ r. r.set) (text_rows net bytes)) sets
  pub edges_after : edges' ≡ written (event_text_check net bytes sets edges offsets) (map (λ r. r.edge) (text_rows net bytes)) edges
  pub offsets_after : offsets' ≡ written (event_text_check net bytes sets edges offsets) (map (λ r. r.offset) (text_rows net bytes)) offsets
