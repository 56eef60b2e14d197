-- Texts of lists within the limits are accepted, and the table of those lists is printed.
use mathlib.Core.List.{List, map}
use mathlib.Core.Path.{◌≡◌, ◌∙◌}
use Prim.Native.Nat.{ℕ, ◌≤◌, ◌<◌}
use lib.ListN.{length, get_or}
use Rattle.model.specs.Refusal.{Check, accepted}
use Rattle.model.specs.Checks.{sets_over_network_check, thresholds_check}
use Rattle.model.specs.Events.{events}
use Rattle.model.specs.Network.{Network}
use Rattle.text.specs.EventText.{Row}
use Rattle.text.specs.Numbers.{max_number}
use Rattle.text.specs.Reading.{max_bytes}
use Rattle.text.specs.Texts.{IsNetworkText, IsEventText, IsThresholdText}
use Rattle.network_reader.proofs.Accepts.{network-is, network-file-accepts}
use Rattle.event_reader.proofs.Accepts.{over-network, events-are, event-file-accepts}
use Rattle.threshold_reader.proofs.Accepts.{thresholds-are, threshold-file-accepts}
use Rattle.report.specs.Report.{line_or, bytes_over_rows, bytes_over_network, report_bytes, counts_table}

-- an accepted file gives way to what comes next
goes_on : {check : Check} (file more : List ℕ) → check ≡ accepted → line_or check file more ≡ more
unfolding line_or
goes_on file more e = rw e

-- For lists within the limits, with thresholds no greater than a number in a text may be: whatever the layout of their three texts, what is
-- printed is the table of these lists.
module _ {net : Network} {all : List Row} {ts network reports thresholds : List ℕ} (is-network : IsNetworkText net network) (are-reports : IsEventText all reports) (are-thresholds : IsThresholdText ts thresholds) where
  pub table-printed : sets_over_network_check net (map (λ r. r.set) all) (map (λ r. r.edge) all) (map (λ r. r.offset) all) ≡ accepted → thresholds_check ts ≡ accepted → ((k : ℕ) → k < length ts → get_or ts k 0 ≤ max_number) → length network ≤ max_bytes → length reports ≤ max_bytes → length thresholds ≤ max_bytes → report_bytes network reports thresholds ≡ counts_table net (map (λ r. r.set) all) (events (map (λ r. r.edge) all) (map (λ r. r.offset) all)) ts
  unfolding report_bytes bytes_over_network bytes_over_rows
  table-printed good rising small short-network short-reports short-thresholds =
      let good-network = over-network net are-reports good in
      goes_on _ _ (network-file-accepts is-network good-network short-network)
      ∙ rw (network-is is-network good-network)
      (goes_on _ _ (event-file-accepts net are-reports good short-reports)
      ∙ rw (events-are net are-reports good)
      (goes_on _ _ (threshold-file-accepts are-thresholds rising small short-thresholds) ∙ rw (thresholds-are are-thresholds rising small)))
