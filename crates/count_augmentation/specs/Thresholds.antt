-- At which of the rising thresholds what is looked up: cited by inner functions alone.
use Rattle.std.specs.Prelude.{Bool, cond, List, ◌≡◌, ℕ, ◌+◌, ◌/◌, ◌≤◌, ◌<◌, min, length, get_or}
use Rattle.edge_pair.specs.declared.edges.EdgePair.{EdgePair}
use Rattle.count_augmentation.specs.LookUp.{stored_last, looked_part, looked_up_by}

-- the numbers of a list from a place on are not below a limit
pub record NotBelow (ns : List ℕ) (limit place : ℕ) : Type 0 where
  pub within : place ≤ length ns
  pub after : (k : ℕ) → place ≤ k → k < length ns → limit ≤ get_or ns k 0

-- and those before it are
pub record Parted (ns : List ℕ) (limit place : ℕ) : Type 0 where
  pub not_below : NotBelow ns limit place
  pub before : (k : ℕ) → k < place → get_or ns k 0 < limit

-- the least threshold at which all of an edge of length q is within reach of its ends, which are u and v metres away
abbrev pub whole_from_of : ℕ → ℕ → ℕ → ℕ
whole_from_of q u v = min ((u + v + q) / 2) (min u v + q)

-- the least at which anything of it is, and 0 on the event's own edge
unfoldable pub some_from_of : Bool → ℕ → ℕ → ℕ
some_from_of own u v = cond own 0 (min u v)

-- for an event nothing is looked up before one place of the thresholds, and from another on the whole run's number
pub record Spread (w : EdgePair) (ts : List ℕ) (x : ℕ) (ys near_first near-second : List ℕ) (from to : ℕ) : Type 0 where
  pub in_order : from ≤ to
  pub nothing : (k : ℕ) → k < from → looked_up_by w (get_or ts k 0) x ys near_first near-second ≡ 0
  pub parts : (k : ℕ) → from ≤ k → k < to → looked_up_by w (get_or ts k 0) x ys near_first near-second ≡ looked_part w (get_or ts k 0) x ys near_first near-second
  pub all : (k : ℕ) → to ≤ k → k < length ts → looked_up_by w (get_or ts k 0) x ys near_first near-second ≡ stored_last near_first
