-- What the functions that cut the events into runs keep: cited by inner functions alone.
use Rattle.std.specs.Prelude.{Bool, true, ◌||◌, not, List, ◌≡◌, ℕ, suc, pred, ◌≤◌, ◌<◌, eqb, length, get_or}
use Rattle.model.specs.Limits.{max_events}

-- r runs: rising bounds from 0 on, each run on one edge
pub record Cut (edges bounds : List ℕ) (r : ℕ) : Type 0 where
  pub at_zero : get_or bounds 0 0 ≡ 0
  pub rising : (q : ℕ) → q < r → get_or bounds q 0 < get_or bounds (suc q) 0
  pub one_edge : (q k : ℕ) → q < r → get_or bounds q 0 ≤ k → k < get_or bounds (suc q) 0 → get_or edges k 0 ≡ get_or edges (get_or bounds q 0) 0
  pub few : r ≤ get_or bounds r 0

-- place k ends a run: the events end there, or the edge changes
unfoldable pub ends_run_of : List ℕ → ℕ → ℕ → Bool
ends_run_of edges to k = eqb k to || not (eqb (get_or edges k 0) (get_or edges (pred k) 0))

-- r runs up to place from, and more events up to place to
pub record Cuttable (edges bounds : List ℕ) (r from to : ℕ) : Type 0 where
  pub cut : Cut edges bounds r
  pub begins : get_or bounds r 0 ≡ from
  pub in_order : from ≤ to
  pub within : to ≤ length edges
  pub few : to ≤ max_events
  pub room : to < length bounds

-- more runs, up to place to, behind the r that were there
pub record CutTo (edges bounds : List ℕ) (r to r' : ℕ) (bounds' : List ℕ) : Type 0 where
  pub cut : Cut edges bounds' r'
  pub ends : get_or bounds' r' 0 ≡ to
  pub more : r ≤ r'
  pub kept : (q : ℕ) → q ≤ r → get_or bounds' q 0 ≡ get_or bounds q 0
  pub cuts : (q : ℕ) → r < q → q ≤ r' → ends_run_of edges to (get_or bounds' q 0) ≡ true

-- rising starts of n sets of events, and room for their runs
pub record Startable (starts edges bounds set_runs_of : List ℕ) (n : ℕ) : Type 0 where
  pub from_zero : get_or starts 0 0 ≡ 0
  pub in_order : (s : ℕ) → s < n → get_or starts s 0 ≤ get_or starts (suc s) 0
  pub to_last : (s : ℕ) → s ≤ n → get_or starts s 0 ≤ get_or starts n 0
  pub within : get_or starts n 0 ≤ length edges
  pub few : get_or starts n 0 ≤ max_events
  pub room : get_or starts n 0 < length bounds
  pub starts_room : n < length starts
  pub runs_room : n < length set_runs_of

-- the runs of n sets, each set beginning a run
pub record SetsCut (starts edges bounds set_runs_of : List ℕ) (n : ℕ) : Type 0 where
  pub cut : Cut edges bounds (get_or set_runs_of n 0)
  pub begins : get_or set_runs_of 0 0 ≡ 0
  pub in_order : (s : ℕ) → s < n → get_or set_runs_of s 0 ≤ get_or set_runs_of (suc s) 0
  pub below : (s : ℕ) → s ≤ n → get_or set_runs_of s 0 ≤ get_or set_runs_of n 0
  pub set_begins : (s : ℕ) → s ≤ n → get_or bounds (get_or set_runs_of s 0) 0 ≡ get_or starts s 0
  pub cuts : (s q : ℕ) → s < n → get_or set_runs_of s 0 < q → q ≤ get_or set_runs_of (suc s) 0 → ends_run_of edges (get_or starts (suc s) 0) (get_or bounds q 0) ≡ true
