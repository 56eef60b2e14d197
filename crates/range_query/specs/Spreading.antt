-- What the inner functions that make a ladder promise: cited by no public function.
use Rattle.std.specs.Prelude.{List, Option, IfSome, ◌≡◌, ℕ, ◌+◌, ◌-◌, ◌≤◌, ◌<◌, min, length, get_or}
use Rattle.model.specs.Limits.{max_thresholds}
use Rattle.range_query.specs.Ladder.{last_step, kind_at, first_cell, last_cell, ladder_length, exact, Bracket, Level, Celled, Placed}

-- the first n steps are the thresholds, the greatest repeated behind them
pub record SpreadSteps (ts : List ℕ) (n : ℕ) (ladder : List ℕ) : Type 0 where
  pub long : length ladder ≡ ladder_length
  pub at : (k : ℕ) → k < n → get_or ladder k 0 ≡ get_or ts (min k (length ts - 1)) 0

-- from step c on to step r all are below so many metres, and step r is not if it comes before an end
pub record Skipped (ladder : List ℕ) (metres c end r : ℕ) : Type 0 where
  pub onward : c ≤ r
  pub in_list : r ≤ end
  pub stops : r < end → metres ≤ get_or ladder r 0
  pub passed : (j : ℕ) → c ≤ j → j < r → get_or ladder j 0 < metres

-- every step behind number c, up to number last, admits what lies before an end, or, where there is no end, anything
pub record Alone (ladder : List ℕ) (last c : ℕ) (end : Option ℕ) : Type 0 where
  pub ahead : (d : ℕ) → IfSome end (λ e. d < e) → (j : ℕ) → c < j → j ≤ last → d ≤ get_or ladder j 0

-- a cell names the one step that need be looked at for what lies in it, or none
pub record Names (ladder : List ℕ) (last c : ℕ) (end : Option ℕ) (r : ℕ) : Type 0 where
  pub to_steps : r ≤ max_thresholds
  pub is : r < max_thresholds → r ≡ c
  pub lone : r < max_thresholds → Level ladder → Alone ladder last c end

-- the steps and the shift are kept
pub record StepsKept (old new : List ℕ) : Type 0 where
  pub long : length new ≡ length old
  pub at : (k : ℕ) → k < kind_at → get_or new k 0 ≡ get_or old k 0

-- the cells are filled, as r says, and are right where the steps do not fall
pub record CellsFilled (last : ℕ) (old : List ℕ) (r : ℕ) (new : List ℕ) : Type 0 where
  pub kept : StepsKept old new
  pub celled : (r ≡ exact → ⊥) → Level old → Celled last new
  pub placed : r ≡ exact → Level old → Placed new

-- the cell of each metre holds its bucket, where the steps do not fall
pub record PlacesFilled (old new : List ℕ) : Type 0 where
  pub kept : StepsKept old new
  pub places : Level old → (d : ℕ) → d ≤ last_cell → Bracket last_step old d (get_or new (first_cell + d) 0) 0
