-- The ladder: the thresholds spread over as many steps as there may be thresholds, and cells by which the first step that admits so
-- many metres is looked up.
use Rattle.std.specs.Prelude.{cond, List, ◌≡◌, ℕ, suc, ◌+◌, ◌-◌, ◌/◌, ◌%◌, ◌^◌, ◌≤◌, ◌<◌, min, eqb, ltb, length, get_or}
use Rattle.model.specs.Limits.{max_thresholds}
use Rattle.range_query.specs.declared.lookup.Cells.{Cells}
use Rattle.range_query.specs.declared.lookup.Cells.TheVariants.{EachMetre, Wide}

-- the places of the ladder: the step of the greatest threshold, behind the steps the widest gap, the shift and what the cells are, and
-- behind them the cells
abbrev pub last_step : ℕ
last_step = max_thresholds - 1

abbrev pub widest_at : ℕ
widest_at = max_thresholds

abbrev pub shift_at : ℕ
shift_at = suc widest_at

abbrev pub kind_at : ℕ
kind_at = suc shift_at

abbrev pub first_cell : ℕ
first_cell = suc kind_at

abbrev pub cell_count : ℕ
cell_count = 8192

abbrev pub last_cell : ℕ
last_cell = cell_count - 1

abbrev pub ladder_length : ℕ
ladder_length = first_cell + cell_count

-- a cell is of 2 ^ 31 metres at most
abbrev pub shift_end : ℕ
shift_end = 32

-- what the cells are where there is one for each metre, which holds the bucket itself
abbrev pub exact : ℕ
exact = 2

-- the greatest threshold, and the shift of the cells, which are of 2 ^ shift metres
abbrev pub greatest_of : List ℕ → ℕ
greatest_of ladder = get_or ladder last_step 0

abbrev pub shift_of : List ℕ → ℕ
shift_of ladder = get_or ladder shift_at 0 % shift_end

-- the cell of d: the last one has no end
unfoldable pub cell_of : ℕ → ℕ → ℕ
cell_of shift d = min (d / 2 ^ shift) last_cell

-- what is read of a ladder before anything is looked up in it: cited by no public function
unfoldable pub cells_of : List ℕ → Cells
cells_of ladder = cond (eqb (get_or ladder kind_at 0) exact) EachMetre (Wide (shift_of ladder))

-- the steps before place pos are passed, and with them half more if the last of these does not admit d
unfoldable pub narrowed : List ℕ → ℕ → ℕ → ℕ → ℕ
narrowed ladder d half pos = pos + cond (ltb (get_or ladder (pos + half - 1) 0) d) half 0

-- the steps that do not admit d, by halving all of them
unfoldable pub by_halves_of : List ℕ → ℕ → ℕ
by_halves_of ladder d =
    narrowed ladder d 1 (narrowed ladder d 1 (narrowed ladder d 2 (narrowed ladder d 4 (narrowed ladder d 8 (narrowed ladder d 16 (narrowed ladder d 32 0))))))

-- the step that the cell of d names; none where it is the number of all steps
unfoldable pub named_by : List ℕ → ℕ → ℕ
named_by ladder d = get_or ladder (first_cell + cell_of (shift_of ladder) d) 0

-- the place of the first threshold that admits d, or one behind all thresholds: by the step that the cell of d names, or by halving where
-- it names none
unfoldable pub by_steps_of : List ℕ → ℕ → ℕ
by_steps_of ladder d = cond (ltb (named_by ladder d) max_thresholds) (narrowed ladder d 1 (named_by ladder d)) (by_halves_of ladder d)

-- what the cell of so many metres holds, where a cell is of one metre and the last one without end
unfoldable pub place_in : List ℕ → ℕ → ℕ
place_in ladder d = get_or ladder (first_cell + min d last_cell) 0

-- the same by what the cells are
unfoldable pub found_in : List ℕ → ℕ → ℕ
found_in ladder d = cond (eqb (get_or ladder kind_at 0) exact) (place_in ladder d) (by_steps_of ladder d)

-- the bucket of d: the same, and no more than the number of steps
unfoldable pub bucket_in : List ℕ → ℕ → ℕ
bucket_in ladder d = min (found_in ladder d) max_thresholds

-- the first step up to number last that admits d is among the n from place pos on, or comes behind them
pub record Bracket (last : ℕ) (ladder : List ℕ) (d pos n : ℕ) : Type 0 where
  pub fits : pos + n ≤ max_thresholds
  pub passed : (k : ℕ) → k < pos → get_or ladder k 0 < d
  pub ahead : (k : ℕ) → pos + n ≤ k → k ≤ last → d ≤ get_or ladder k 0

-- the steps do not fall
pub record Level (ladder : List ℕ) : Type 0 where
  pub level : (j k : ℕ) → j ≤ k → k < max_thresholds → get_or ladder j 0 ≤ get_or ladder k 0

-- the cell of d names the one step up to number last that need be looked at, or none
pub record Celled (last : ℕ) (ladder : List ℕ) : Type 0 where
  pub names : (d : ℕ) → named_by ladder d < max_thresholds → Bracket last ladder d (named_by ladder d) 1

-- the cell of each metre holds its bucket, and the last one is beyond the greatest threshold
pub record Placed (ladder : List ℕ) : Type 0 where
  pub beyond : greatest_of ladder < last_cell
  pub places : (d : ℕ) → d ≤ last_cell → Bracket last_step ladder d (get_or ladder (first_cell + d) 0) 0

-- the thresholds are spread over the steps, and the cells are right
pub record LadderOf (ts ladder : List ℕ) : Type 0 where
  pub long : length ladder ≡ ladder_length
  pub few : length ts ≤ max_thresholds
  pub at : (k : ℕ) → k < length ts → get_or ladder k 0 ≡ get_or ts k 0
  pub small : (k : ℕ) → k < length ts → get_or ts k 0 < 4294967296
  pub level : Level ladder
  pub celled : (get_or ladder kind_at 0 ≡ exact → ⊥) → Celled (length ts - 1) ladder
  pub placed : get_or ladder kind_at 0 ≡ exact → Placed ladder
