-- With room enough the answer is a number of bytes, and they are the report's.
use mathlib.Core.List.{List}
use mathlib.Core.Path.{◌≡◌, sym, ◌∙◌}
use Prim.Native.Nat.{ℕ, ◌≤◌}
use native.Mathlib.Omega.{arith}
use lib.ListN.{length}
use Rattle.std.specs.Prelude.{Result, Ok}
use Rattle.model.specs.declared.refusal.Refusal.{Refusal}
use Rattle.report.specs.Report.{ReportPrinted, report_bytes, report_room}
use Rattle.report.proofs.Laws.Room.{report-fits, report-short}
use Rattle.report.proofs.Laws.Table.{front_of}
use Rattle.kcount.specs.Held.{Held}

module _ {network reports thresholds out : List ℕ} {r : Result ℕ Refusal} {out' : List ℕ} (p : ReportPrinted network reports thresholds out r out') (room : report_room ≤ length out) where
  pub bytes-held : {count : ℕ} → length out' ≡ length out → r ≡ Ok count → Held network reports thresholds count out'
  bytes-held {count} kept e =
      let is : count ≡ length (report_bytes network reports thresholds) = cc (sym e ∙ p.never_refused room) in
      record {
        within = omega (arith, report-short network reports thresholds);
        bytes = front_of (report_bytes network reports thresholds) out out' (sym is) p.bytes_are.after (report-fits network reports thresholds out room);
      }
