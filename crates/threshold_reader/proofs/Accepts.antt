-- A text of thresholds within the limits, each no greater than a number in a text may be, is accepted if it is no longer than a text may
-- be, and the thresholds are read from it.
use Rattle.model.specs.Refusal.{accepted}
use mathlib.Core.List.{List}
use mathlib.Core.Path.{◌≡◌}
use Prim.Native.Nat.{ℕ, ◌≤◌, ◌<◌}
use lib.ListN.{length, get_or}
use Rattle.model.proofs.Laws.CheckParts.{room-accepts}
use Rattle.model.proofs.Laws.Refusal.{both-accept}
use Rattle.model.specs.Checks.{thresholds_check}
use Rattle.text.specs.Numbers.{max_number}
use Rattle.text.specs.Reading.{max_bytes}
use Rattle.text.specs.Texts.{IsThresholdText}
use Rattle.text.proofs.Laws.ThresholdsRead.{thresholds-read}
use Rattle.reading.proofs.Laws.Answers.{read-accepted, list-is, short-enough}
use Rattle.threshold_reader.specs.Answers.{text_thresholds, threshold_file_check, threshold_text_check}

module _ {ts bytes : List ℕ} (is-text : IsThresholdText ts bytes) (good : thresholds_check ts ≡ accepted) (small : (k : ℕ) → k < length ts → get_or ts k 0 ≤ max_number) where
  pub thresholds-are : text_thresholds bytes ≡ ts
  unfolding text_thresholds
  thresholds-are = list-is (thresholds-read is-text good small)

  pub threshold-file-accepts : length bytes ≤ max_bytes → threshold_file_check bytes ≡ accepted
  unfolding threshold_file_check
  threshold-file-accepts short = both-accept (short-enough bytes short) (read-accepted (thresholds-read is-text good small))

  -- the check that the reader promises, with room in the answer list
  pub threshold-text-accepts : length bytes ≤ max_bytes → (answers : List ℕ) → length ts ≤ length answers → threshold_text_check bytes answers ≡ accepted
  unfolding threshold_text_check
  threshold-text-accepts short answers room =
      both-accept (threshold-file-accepts short) (rw thresholds-are (room-accepts (length ts) answers room))
