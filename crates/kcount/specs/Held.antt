-- What the program holds before it writes.
use Rattle.std.specs.Prelude.{List, ◌≡◌, ℕ, ◌≤◌, ◌<◌, length, take}
use Rattle.report.specs.Report.{report_bytes, report_room}
use Rattle.text.specs.Reading.{max_bytes}

-- the first r bytes of a list are those of the report over three texts
pub record Held (network reports thresholds : List ℕ) (r : ℕ) (out : List ℕ) : Type 0 where
  pub within : r ≤ length out
  pub bytes : take r out ≡ report_bytes network reports thresholds

-- the same over a front of each of three lists. How long each front is, and that it holds the bytes of a file, is left free: no contract
-- of a system call says what is read.
pub record HeldOfFronts (network reports thresholds : List ℕ) (r : ℕ) (out : List ℕ) : Type 0 where
  pub network_bytes : ℕ
  pub reports_bytes : ℕ
  pub thresholds_bytes : ℕ
  pub network_within : network_bytes ≤ length network
  pub reports_within : reports_bytes ≤ length reports
  pub thresholds_within : thresholds_bytes ≤ length thresholds
  pub held : Held (take network_bytes network) (take reports_bytes reports) (take thresholds_bytes thresholds) r out

-- each list has room for a text that is too long, so that none is cut off and accepted; and the last one for every report
pub record RoomToRead (network reports thresholds out : List ℕ) : Type 0 where
  pub network_room : max_bytes < length network
  pub reports_room : max_bytes < length reports
  pub thresholds_room : max_bytes < length thresholds
  pub out_room : report_room ≤ length out
