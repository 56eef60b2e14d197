-- What is printed for three texts: the line of the first that is refused, otherwise the table.
use Rattle.std.specs.Prelude.{List, [], ◌∷◌, ◌++◌, map, ◌≡◌, ℕ, ◌+◌, ◌*◌, ◌≤◌, length, Result, Ok, Err}
use Rattle.model.specs.declared.refusal.Refusal.{Refusal}
use Rattle.model.specs.Refusal.{Check, fault_number}
use Rattle.model.specs.Answer.{answer, written}
use Rattle.model.specs.Checks.{room_check}
use Rattle.model.specs.Envelope.{Envelope, observed, envelope}
use Rattle.model.specs.Events.{Event, events}
use Rattle.model.specs.Limits.{max_thresholds}
use Rattle.model.specs.Network.{Network}
use Rattle.text.specs.Lines.{line_end_of}
use Rattle.text.specs.EventText.{Row}
use Rattle.printing.specs.Bytes.{header, row, refusal_line}
use Rattle.network_reader.specs.Answers.{text_network, network_file_check}
use Rattle.event_reader.specs.Answers.{text_rows, event_file_check}
use Rattle.threshold_reader.specs.Answers.{text_thresholds, threshold_file_check}

-- the bytes of `network.gr`, `reports.csv` and `thresholds.csv`
abbrev pub network_name : List ℕ
network_name = 110 ∷ 101 ∷ 116 ∷ 119 ∷ 111 ∷ 114 ∷ 107 ∷ 46 ∷ 103 ∷ 114 ∷ []

abbrev pub reports_name : List ℕ
reports_name = 114 ∷ 101 ∷ 112 ∷ 111 ∷ 114 ∷ 116 ∷ 115 ∷ 46 ∷ 99 ∷ 115 ∷ 118 ∷ []

abbrev pub thresholds_name : List ℕ
thresholds_name = 116 ∷ 104 ∷ 114 ∷ 101 ∷ 115 ∷ 104 ∷ 111 ∷ 108 ∷ 100 ∷ 115 ∷ 46 ∷ 99 ∷ 115 ∷ 118 ∷ []

-- the line of a file that is refused, otherwise what comes next
unfoldable pub line_or : Check → List ℕ → List ℕ → List ℕ
line_or (Ok done) file more = more
line_or (Err r) file more = refusal_line file (fault_number r.fault) r.place

-- a row for each threshold
unfoldable pub table_rows : (ℕ → ℕ) → (ℕ → Envelope) → List ℕ → List ℕ
table_rows count span [] = []
table_rows count span (t ∷ ts) = row t (count t) (span t) ++ table_rows count span ts

-- the line of names, then the rows
unfoldable pub counts_table : Network → List ℕ → List Event → List ℕ → List ℕ
counts_table net sets es ts = header ++ (line_end_of ++ table_rows (observed net sets es) (envelope net sets es) ts)

-- over a network and rows that were accepted: the thresholds, then the table
unfoldable pub bytes_over_rows : Network → List Row → List ℕ → List ℕ
bytes_over_rows net all thresholds =
    line_or (threshold_file_check thresholds) thresholds_name
    (counts_table net (map (λ r. r.set) all) (events (map (λ r. r.edge) all) (map (λ r. r.offset) all)) (text_thresholds thresholds))

-- over a network that was accepted: the reports, then the thresholds. The check of the reports looks at the network again, and always
-- accepts it.
unfoldable pub bytes_over_network : Network → List ℕ → List ℕ → List ℕ
bytes_over_network net reports thresholds = line_or (event_file_check net reports) reports_name (bytes_over_rows net (text_rows net reports) thresholds)

unfoldable pub report_bytes : List ℕ → List ℕ → List ℕ → List ℕ
report_bytes network reports thresholds = line_or (network_file_check network) network_name (bytes_over_network (text_network network) reports thresholds)

-- room that always suffices: the line of names with its end, and for each threshold that there may be a row of four numbers of at most 20 digits, three
-- commas and a line end
abbrev pub report_room : ℕ
report_room = 35 + max_thresholds * 85

-- these bytes are printed, if there is room for them: 2 otherwise
pub record BytesPrinted (bytes out : List ℕ) (r : Result ℕ Refusal) (out' : List ℕ) : Type 0 where
  pub answer : r ≡ answer (room_check (length bytes) out) (length bytes)
  pub after : out' ≡ written (room_check (length bytes) out) bytes out

-- the promise of the report
pub record ReportPrinted (network reports thresholds out : List ℕ) (r : Result ℕ Refusal) (out' : List ℕ) : Type 0 where
  pub bytes_are : BytesPrinted (report_bytes network reports thresholds) out r out'
  pub never_refused : report_room ≤ length out → r ≡ Ok (length (report_bytes network reports thresholds))
