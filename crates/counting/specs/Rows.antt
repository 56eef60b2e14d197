-- The counts of a set from its totals.
use Rattle.std.specs.Prelude.{◌≡◌, ℕ, suc, ◌-◌, ◌*◌, ◌<◌, ◌≤◌, min, List, length, slice_index}
use Rattle.model.specs.Limits.{max_set}
use Rattle.model.specs.Network.{Network}
use Rattle.edge_pair.specs.Totals.{wrap, Same64, total_at}
use Rattle.prepare.specs.Rows.{RowsWritten}
use Rattle.prepare.specs.RunPairs.{other_row, SumFits}

-- no count of 32 bits is greater
abbrev pub max_count : ℕ
max_count = 4294967295

-- every total is twice what it was
pub record Doubled (old new : List ℕ) : Type 0 where
  pub same_length : length new ≡ length old
  pub at : (k : ℕ) → k < length old → Same64 (total_at new k) (2 * total_at old k)

-- a row of n counts: each total, as a number of 64 bits, less the events
pub record RowWritten (totals : List ℕ) (events n : ℕ) (row : List ℕ) : Type 0 where
  pub long : length row ≡ n
  pub at : (k : ℕ) → k < n → (total : ℕ) → total < wrap → Same64 (total_at totals k) total → slice_index row k ≡ min (total - events) max_count

-- what is left of a set's pairs fits at each threshold
pub record RowFits (net : Network) (es xs bounds ts : List ℕ) (r q : ℕ) : Type 0 where
  pub at : (k : ℕ) → k < length ts → SumFits net es xs bounds r q (slice_index ts k)

-- the runs of so many sets are among the first ones, and their counts fit
pub record SetsReady (net : Network) (es xs bounds set_runs_of ts : List ℕ) (count runs : ℕ) : Type 0 where
  pub few : count ≤ suc max_set
  pub in_list : count < length set_runs_of
  pub in_order : (s : ℕ) → s < count → slice_index set_runs_of s ≤ slice_index set_runs_of (suc s)
  pub to_runs : (s : ℕ) → s < count → slice_index set_runs_of (suc s) ≤ runs
  pub fits : (s : ℕ) → s < count → RowFits net es xs bounds ts (slice_index set_runs_of s) (slice_index set_runs_of (suc s))

-- the row of set s, by its runs
unfoldable pub set_row : Network → List ℕ → List ℕ → List ℕ → List ℕ → List ℕ → ℕ → List ℕ
set_row net es xs bounds set_runs_of ts s = other_row net es xs bounds ts (slice_index set_runs_of s) (slice_index set_runs_of (suc s))

-- those of all sets are
pub record RowsAfter (net : Network) (es xs bounds set_runs_of ts : List ℕ) (count : ℕ) (old new : List ℕ) : Type 0 where
  pub rows : RowsWritten (set_row net es xs bounds set_runs_of ts) (length ts) old count (count * length ts) new
