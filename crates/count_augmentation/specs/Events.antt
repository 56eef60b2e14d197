-- What the functions that store the numbers of a laid-out set's events keep: cited by inner functions alone.
use Rattle.std.specs.Prelude.{List, ◌≡◌, ℕ, suc, ◌≤◌, ◌<◌, length, get_or}
use Rattle.model.specs.Events.{having}
use Rattle.model.specs.Limits.{max_events}
use Rattle.count_augmentation.specs.Storing.{at_most, at_least}

-- the edges rise, and on one edge the offsets
pub record LaidOut (es xs : List ℕ) : Type 0 where
  pub same_length : length es ≡ length xs
  pub few : length es ≤ max_events
  pub edges_rise : (i j : ℕ) → i ≤ j → j < length es → get_or es i 0 ≤ get_or es j 0
  pub offsets_rise : (k : ℕ) → suc k < length es → get_or es k 0 ≡ get_or es (suc k) 0 → get_or xs k 0 ≤ get_or xs (suc k) 0

-- the first n events have their numbers stored: of the offsets on their edge, how many are at most theirs, and how many at least
pub record EventsStored (es xs : List ℕ) (n : ℕ) (near_first near-second : List ℕ) : Type 0 where
  pub first_at_of : (k : ℕ) → k < n → get_or near_first k 0 ≡ at_most (having (get_or es k 0) es xs) (get_or xs k 0)
  pub second_at : (k : ℕ) → k < n → get_or near-second k 0 ≡ at_least (having (get_or es k 0) es xs) (get_or xs k 0)
