-- What the reader of thresholds answers and leaves in the answer list, in 01's checking order: 1; the first bad line, or what is
-- missing at the end; 2 last, for an answer list too short.
use Rattle.std.specs.Prelude.{List, ◌≡◌, ℕ, length, Result}
use Rattle.model.specs.Answer.{answer, written}
use Rattle.model.specs.Checks.{room_check}
use Rattle.model.specs.Refusal.{or_else, Check}
use Rattle.model.specs.declared.refusal.Refusal.{Refusal}
use Rattle.text.specs.Lines.{csv_lines}
use Rattle.text.specs.Reading.{length_check}
use Rattle.text.specs.ThresholdText.{threshold_lines}
use Rattle.reading.specs.Answers.{check_of, list_in}

unfoldable pub text_thresholds : List ℕ → List ℕ
text_thresholds bytes = list_in (threshold_lines (csv_lines bytes))

-- the text alone: 1, then the first bad line or what is missing at the end
unfoldable pub threshold_file_check : List ℕ → Check
threshold_file_check bytes = or_else (length_check bytes) (check_of (threshold_lines (csv_lines bytes)))

-- the text, then 2
unfoldable pub threshold_text_check : List ℕ → List ℕ → Check
threshold_text_check bytes answers = or_else (threshold_file_check bytes) (room_check (length (text_thresholds bytes)) answers)

-- the promise: the answer, and the answer list before and after
pub record ThresholdsRead (bytes thresholds : List ℕ) (r : Result ℕ Refusal) (thresholds' : List ℕ) : Type 0 where
  pub answer : r ≡ answer (threshold_text_check bytes thresholds) (length (text_thresholds bytes))
  pub after : thresholds' ≡ written (threshold_text_check bytes thresholds) (text_thresholds bytes) thresholds
