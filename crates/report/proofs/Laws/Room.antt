-- How much room a report may take.
use mathlib.Core.List.{List, [], ◌∷◌}
use mathlib.Core.Path.{◌≡◌, refl, sym, ◌∙◌}
use Prim.Native.Nat.{ℕ, ◌*◌, ◌≤◌}
use native.Mathlib.Omega.{arith}
use lib.ListN.{length, length-append}
use Rattle.std.specs.Prelude.{Result, Ok, Err}
use Rattle.model.specs.declared.refusal.Refusal.{Refusal}
use Rattle.model.specs.Refusal.{Check, accepted, fault_number}
use Rattle.model.specs.Checks.{room_check}
use Rattle.model.specs.Envelope.{Envelope, observed, envelope}
use Rattle.model.specs.Events.{Event}
use Rattle.model.specs.Limits.{max_thresholds}
use Rattle.model.specs.Network.{Network}
use Rattle.model.proofs.Laws.Answer.{answer-accepted}
use Rattle.model.proofs.Laws.CheckParts.{room-accepts}
use Rattle.text.proofs.Laws.Digits.{digits-few}
use Rattle.text.specs.Lines.{csv_lines}
use Rattle.text.specs.Reading.{Outcome, read, refused_at}
use Rattle.text.specs.ThresholdText.{threshold_lines}
use Rattle.printing.specs.Bytes.{row}
use Rattle.printing.proofs.Laws.Sizes.{span-few, row-length, refusal-length}
use Rattle.reading.specs.Answers.{list_in}
use Rattle.threshold_reader.specs.Answers.{text_thresholds}
use Rattle.threshold_reader.proofs.Laws.{read-rising}
use Rattle.report.specs.Report.{BytesPrinted, ReportPrinted, bytes_over_network, bytes_over_rows, counts_table, line_or, network_name, report_bytes, report_room, reports_name, table_rows, thresholds_name}

-- a line of a refusal
line-short : (check : Check) (file more : List ℕ) → length file ≤ 14 → length more ≤ report_room → length (line_or check file more) ≤ report_room
unfolding line_or
line-short (Ok done) file more f m = m
line-short (Err r) file more f m =
    omega (arith, refusal-length file (fault_number r.fault) r.place, digits-few (fault_number r.fault), digits-few r.place)

-- a row takes at most 85 bytes
rows_short : (count : ℕ → ℕ) (env : ℕ → Envelope) (ts : List ℕ) → length (table_rows count env ts) ≤ 85 * length ts
unfolding table_rows
rows_short count env [] = omega arith
rows_short count env (t ∷ ts) =
    rw (length-append (row t (count t) (env t)) (table_rows count env ts))
    (omega (arith, row-length t (count t) (env t), digits-few t, digits-few (count t), span-few (env t), rows_short count env ts))

-- there are never too many thresholds
few : (bytes : List ℕ) → length (text_thresholds bytes) ≤ max_thresholds
unfolding text_thresholds list_in
few bytes = by (threshold_lines (csv_lines bytes)) (λ xs e. (read-rising (csv_lines bytes) xs e).0.few)
  where
    by : (o : Outcome (List ℕ)) → ((xs : List ℕ) → o ≡ read xs → length xs ≤ max_thresholds) → length (list_in o) ≤ max_thresholds
    by (read xs) each = each xs refl
    by (refused_at fault place) each = omega arith

table-short : (net : Network) (sets : List ℕ) (es : List Event) (ts : List ℕ) → length ts ≤ max_thresholds → length (counts_table net sets es ts) ≤ report_room
unfolding counts_table
table-short net sets es ts h = omega (arith, rows_short (observed net sets es) (envelope net sets es) ts)

pub report-short : (network reports thresholds : List ℕ) → length (report_bytes network reports thresholds) ≤ report_room
unfolding report_bytes bytes_over_network bytes_over_rows
report-short network reports thresholds =
    line-short _ network_name _ (omega arith)
    (line-short _ reports_name _ (omega arith)
    (line-short _ thresholds_name _ (omega arith) (table-short _ _ _ (text_thresholds thresholds) (few thresholds))))

-- so with so much room it always fits
pub report-fits : (network reports thresholds out : List ℕ) → report_room ≤ length out → room_check (length (report_bytes network reports thresholds)) out ≡ accepted
report-fits network reports thresholds out enough =
    let fits : length (report_bytes network reports thresholds) ≤ length out = omega (arith, report-short network reports thresholds) in
    room-accepts _ out fits

-- the promise, with the room told
pub report-printed : (network reports thresholds : List ℕ) {out : List ℕ} {r : Result ℕ Refusal} {out' : List ℕ} → BytesPrinted (report_bytes network reports thresholds) out r out' → ReportPrinted network reports thresholds out r out'
report-printed network reports thresholds {out} {r} p =
    record {
      bytes_are = p;
      never_refused = λ enough. p.answer ∙ sym (answer-accepted _ (report-fits network reports thresholds out enough));
    }
