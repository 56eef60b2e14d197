-- A report text (CSV, header `set,leg,offset`): what each line does and what the whole text comes to, over a lent network.
use Rattle.model.specs.declared.refusal.Fault.TheVariants.{BadSet, BeyondEdge, NoEdge, NoForm, NoHeader, TooManyEvents}
use Rattle.std.specs.Prelude.{List, [], ◌∷◌, ◌++◌, ℕ, pred, leb, ltb, length}
use Rattle.model.specs.Limits.{max_set, max_events}
use Rattle.model.specs.Network.{Network, edges, size}
use Rattle.model.specs.Refusal.{is_between_of}
use Rattle.text.specs.Fields.{comma, fields, same_bytes_of, numbers_in}
use Rattle.text.specs.declared.fields.Numbers.{Numbers}
use Rattle.text.specs.declared.fields.Numbers.TheVariants.{Nothing, One, Two, Three}
use Rattle.text.specs.Reading.{Step, taken, refused, Outcome, read, refused_at, read_lines, require}

-- the bytes of `set,leg,offset`
abbrev pub event_header : List ℕ
event_header = 115 ∷ 101 ∷ 116 ∷ 44 ∷ 108 ∷ 101 ∷ 103 ∷ 44 ∷ 111 ∷ 102 ∷ 102 ∷ 115 ∷ 101 ∷ 116 ∷ []

-- a row: set number, edge number, offset
pub record Row : Type 0 where
  pub set : ℕ
  pub edge : ℕ
  pub offset : ℕ

abbrev pub row : ℕ → ℕ → ℕ → Row
row set edge offset = record { set = set; edge = edge; offset = offset }

-- what was read so far: not even the header, or the rows in order
pub data EventState : Type 0 where
  before_header : EventState
  rows : List Row → EventState

-- 12 to 15 for one more row
unfoldable pub take_row : Network → List Row → Row → Step EventState
take_row net before row =
    require (leb row.set max_set) BadSet
    (require (is_between_of 1 (edges net) row.edge) NoEdge
    (require (leb row.offset (size net (pred row.edge))) BeyondEdge
    (require (ltb (length before) max_events) TooManyEvents (taken (rows (before ++ (row ∷ [])))))))

-- a row has three numbers, anything else no form
unfoldable pub take_numbers_of : Network → List Row → Numbers → Step EventState
take_numbers_of net before Nothing = refused NoForm
take_numbers_of net before (One x) = refused NoForm
take_numbers_of net before (Two x y) = refused NoForm
take_numbers_of net before (Three s e x) = take_row net before (row s e x)

unfoldable pub event_step : Network → EventState → List ℕ → Step EventState
event_step net before_header line = require (same_bytes_of line event_header) NoHeader (taken (rows []))
event_step net (rows before) line = take_numbers_of net before (numbers_in (fields comma line))

-- at the end: 4 where there was no line
unfoldable pub event_end : Outcome EventState → Outcome (List Row)
event_end (read before_header) = refused_at NoHeader 1
event_end (read (rows all)) = read all
event_end (refused_at fault place) = refused_at fault place

unfoldable pub event_lines : Network → List (List ℕ) → Outcome (List Row)
event_lines net lines = event_end (read_lines (event_step net) 1 before_header lines)
