-- What the parts of the reader of thresholds answer: the list that they fill holds the thresholds read so far.
use Rattle.std.specs.Prelude.{List, [], ◌≡◌, ℕ, suc, ◌≤◌, length, take, Result, Ok, Err}
use Rattle.model.specs.Limits.{max_thresholds}
use Rattle.model.specs.declared.refusal.Fault.{Fault}
use Rattle.model.specs.declared.refusal.Refusal.{Refusal}
use Rattle.text.specs.Lines.{csv_lines}
use Rattle.text.specs.Reading.{Step, taken, refused, Outcome, read, refused_at, read_lines}
use Rattle.text.specs.ThresholdText.{ThresholdState, values, threshold_step, threshold_end, threshold_lines}
use Rattle.reading.specs.Answers.{entries}

-- a line behind the first count thresholds of a list: one more of them, or the refusal
unfoldable pub thresholds_after : Result (Unit {0}) Fault → ℕ → List ℕ → Step ThresholdState
thresholds_after (Ok done) count list = taken (values (take (suc count) list))
thresholds_after (Err fault) count list = refused fault

-- all lines: the thresholds at the front of a list, or the refusal
unfoldable pub thresholds_in : Result ℕ Refusal → List ℕ → Outcome (List ℕ)
thresholds_in (Ok count) list = read (take count list)
thresholds_in (Err r) list = refused_at r.fault r.place

-- the rows of a threshold text, behind its header on line 1
pub record ThresholdRows (rows : List ℕ) (r : Result ℕ Refusal) (list : List ℕ) : Type 0 where
  pub outcome : threshold_end (suc (suc (length (csv_lines rows)))) (read_lines threshold_step 2 (values []) (csv_lines rows)) ≡ thresholds_in r list
  pub few : entries r ≤ max_thresholds

-- a whole threshold text
pub record ThresholdsTaken (bytes : List ℕ) (r : Result ℕ Refusal) (list : List ℕ) : Type 0 where
  pub outcome : threshold_lines (csv_lines bytes) ≡ thresholds_in r list
  pub few : entries r ≤ max_thresholds
