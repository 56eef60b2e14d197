-- A threshold text (CSV, header `threshold`): what each line does and what the whole text comes to.
use Rattle.model.specs.declared.refusal.Fault.TheVariants.{BadThresholds, NoForm, NoHeader, NotRising}
use Rattle.std.specs.Prelude.{Bool, true, List, [], ◌∷◌, ◌++◌, ℕ, suc, ltb, length}
use Rattle.model.specs.Limits.{max_thresholds}
use Rattle.text.specs.Fields.{comma, fields, same_bytes_of, numbers_in}
use Rattle.text.specs.declared.fields.Numbers.{Numbers}
use Rattle.text.specs.declared.fields.Numbers.TheVariants.{Nothing, One, Two, Three}
use Rattle.text.specs.Reading.{Step, taken, refused, Outcome, read, refused_at, read_lines, require}

-- the bytes of `threshold`
abbrev pub threshold_header : List ℕ
threshold_header = 116 ∷ 104 ∷ 114 ∷ 101 ∷ 115 ∷ 104 ∷ 111 ∷ 108 ∷ 100 ∷ []

-- what was read so far: not even the header, or the thresholds in order
pub data ThresholdState : Type 0 where
  before_header : ThresholdState
  values : List ℕ → ThresholdState

-- t is above the last of the list; of an empty list nothing is asked
unfoldable pub above_last : List ℕ → ℕ → Bool
above_last [] t = true
above_last (s ∷ []) t = ltb s t
above_last (s ∷ s' ∷ more) t = above_last (s' ∷ more) t

-- 18 and 19 for one more threshold
unfoldable pub take_threshold_of : List ℕ → ℕ → Step ThresholdState
take_threshold_of before t =
    require (ltb (length before) max_thresholds) BadThresholds
    (require (above_last before t) NotRising (taken (values (before ++ (t ∷ [])))))

-- a row has one number, anything else no form
unfoldable pub take_number_of : List ℕ → Numbers → Step ThresholdState
take_number_of before Nothing = refused NoForm
take_number_of before (One t) = take_threshold_of before t
take_number_of before (Two x y) = refused NoForm
take_number_of before (Three x y z) = refused NoForm

unfoldable pub threshold_step : ThresholdState → List ℕ → Step ThresholdState
threshold_step before_header line = require (same_bytes_of line threshold_header) NoHeader (taken (values []))
threshold_step (values before) line = take_number_of before (numbers_in (fields comma line))

-- at the end, at the place one after the last line: 4 where there was no line, 18 where there is no threshold
unfoldable pub threshold_end : ℕ → Outcome ThresholdState → Outcome (List ℕ)
threshold_end place (read before_header) = refused_at NoHeader place
threshold_end place (read (values [])) = refused_at BadThresholds place
threshold_end place (read (values (t ∷ ts))) = read (t ∷ ts)
threshold_end place (refused_at fault at) = refused_at fault at

unfoldable pub threshold_lines : List (List ℕ) → Outcome (List ℕ)
threshold_lines lines = threshold_end (suc (length lines)) (read_lines threshold_step 1 before_header lines)
