-- Runs as the driver reads them, and what it adds up.
use Rattle.std.specs.Prelude.{◌≡◌, ℕ, suc, pred, ◌+◌, ◌-◌, ◌<◌, ◌≤◌, Bool, cond, List, length, take, drop, slice_index, slice_index_or}
use Rattle.model.specs.Counting.{sum_below}
use Rattle.model.specs.Limits.{max_events, max_thresholds}
use Rattle.model.specs.Network.{Network}
use Rattle.edge_pair.specs.Offsets.{Ordered, OnEdge, EdgesLaid}
use Rattle.edge_pair.specs.Within.{reached_pairs}
use Rattle.edge_pair.specs.declared.edges.EdgePair.{EdgePair}
use Rattle.prepare.specs.RunPairs.{edge_of, part_of, pairs_with, RunsReady}
use Rattle.count_augmentation.specs.Storing.{NumbersStored}
use Rattle.range_query.specs.Ladder.{LadderOf}
use Rattle.counting.specs.TwoEdges.{rows_of, table_edges_of}
use Rattle.counting.specs.declared.runs.Run.{Run}
use Rattle.counting.specs.declared.runs.Taken.{Taken}

-- a run by its number
unfoldable pub run_of : List ℕ → List ℕ → ℕ → Run
run_of es bounds r =
    record { edge = pred (edge_of es bounds r); from = slice_index bounds r; to = slice_index bounds (suc r) }

-- with the rows of its edge
unfoldable pub taken_of : Network → List ℕ → List ℕ → ℕ → Taken
taken_of net es bounds r =
    record { number = r; run = run_of es bounds r; rows = rows_of net (pred (edge_of es bounds r)) }

-- its part of a list
abbrev pub part : Run → List ℕ → List ℕ
part run l = take (run.to - run.from) (drop run.from l)

-- a run stands in the lists
pub record RunRead (es bounds : List ℕ) (r : ℕ) : Type 0 where
  pub in_bounds : suc r < length bounds
  pub in_edges : slice_index_or bounds r 0 < length es
  pub named : 1 ≤ edge_of es bounds r

-- nothing on the edges of the runs from one on up to before another is reached from the edge at index i
pub record ApartTo (net : Network) (table es bounds : List ℕ) (i from to : ℕ) : Type 0 where
  pub low : from ≤ to
  pub none : (k : ℕ) → from ≤ k → k < to → (t : ℕ) (xs ys : List ℕ) → reached_pairs t (table_edges_of net table i (pred (edge_of es bounds k))) xs ys ≡ 0

-- its part lies within a list, which is not too long
pub record PartsIn (l : List ℕ) (run : Run) : Type 0 where
  pub begins : run.from ≤ run.to
  pub in_list : run.to ≤ length l
  pub few : run.to ≤ max_events

-- what the kernels want of two runs: rising thresholds and their ladder, laid-out offsets, and right stored numbers
pub record TwoReady (ts ladder : List ℕ) (w : EdgePair) (xs ys near_first near-second : List ℕ) : Type 0 where
  pub rising : Ordered ts
  pub ladder_is : LadderOf ts ladder
  pub laid : EdgesLaid w xs ys
  pub first_length : length near_first ≡ length ys
  pub second_length : length near-second ≡ length ys
  pub stored : NumbersStored w.length2 ys near_first near-second

-- run k lies within the lists, and its offsets rise
pub record RunStorable (xs bounds near_first near-second : List ℕ) (k : ℕ) : Type 0 where
  pub begins : slice_index_or bounds k 0 ≤ slice_index bounds (suc k)
  pub in_offsets : slice_index_or bounds (suc k) 0 ≤ length xs
  pub in_first : slice_index_or bounds (suc k) 0 ≤ length near_first
  pub in_second : slice_index_or bounds (suc k) 0 ≤ length near-second
  pub few : slice_index_or bounds (suc k) 0 ≤ max_events
  pub rising : Ordered (part_of bounds k xs)

-- the first runs do
pub record RunsStorable (xs bounds near_first near-second : List ℕ) (runs : ℕ) : Type 0 where
  pub in_bounds : runs < length bounds
  pub at : (k : ℕ) → k < runs → RunStorable xs bounds near_first near-second k

-- the numbers of run k are stored, whatever the length of its edge
pub record RunStored (xs bounds near_first near-second : List ℕ) (k : ℕ) : Type 0 where
  pub in_first : slice_index_or bounds (suc k) 0 ≤ length near_first
  pub in_second : slice_index_or bounds (suc k) 0 ≤ length near-second
  pub stored : (p : ℕ) → OnEdge p (part_of bounds k xs) → NumbersStored p (part_of bounds k xs) (part_of bounds k near_first) (part_of bounds k near-second)

-- those of the first runs are
pub record RunsStored (xs bounds near_first near-second : List ℕ) (runs : ℕ) : Type 0 where
  pub at : (k : ℕ) → k < runs → RunStored xs bounds near_first near-second k

-- everything that the loops over the first runs read
pub record AllRuns (net : Network) (table es xs bounds near_first near-second ts ladder : List ℕ) (runs : ℕ) : Type 0 where
  pub some : 1 ≤ length ts
  pub few : length ts ≤ max_thresholds
  pub rising : Ordered ts
  pub ladder_is : LadderOf ts ladder
  pub ready : RunsReady net table es xs bounds ts runs
  pub stored : RunsStored xs bounds near_first near-second runs

-- a run of a set is taken with itself, or with others
unfoldable pub partners : Bool → ℕ → ℕ → ℕ
partners own others itself = cond own itself others

module _ (net : Network) (es xs bounds : List ℕ) where
  -- n runs from run r on, each with itself, or with each earlier one
  unfoldable pub each_pairs : Bool → ℕ → ℕ → ℕ → ℕ
  each_pairs own t r n =
      sum_below n (λ j. pairs_with net es xs bounds t (partners own r (r + j)) (r + j) (partners own (r + j) (suc (r + j)) - partners own r (r + j)))
