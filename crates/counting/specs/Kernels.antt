-- Which kernel two runs are counted by, and what each kernel counts from.
use Rattle.std.specs.Prelude.{◌≡◌, ℕ, ◌-◌, ◌<◌, ◌≤◌, List, length, slice_index, slice_index_or}
use Rattle.model.specs.Limits.{max_events, max_thresholds}
use Rattle.edge_pair.specs.Offsets.{Ordered}
use Rattle.edge_pair.specs.Totals.{Added}
use Rattle.edge_pair.specs.Ways.{shortest_route_of, greatest_distance_of}
use Rattle.edge_pair.specs.declared.edges.EdgePair.{EdgePair}
use Rattle.count_augmentation.specs.LookUp.{looked_up_pairs}
use Rattle.neighbor_sharing.specs.Joined.{shared_within}
use Rattle.range_query.specs.Ladder.{ladder_length}
use Rattle.range_query.specs.Metres.{tallied}
use Rattle.counting.specs.declared.choice.Kernel.{Kernel}
use Rattle.counting.specs.declared.choice.Kernel.TheVariants as kernel
use Rattle.counting.specs.declared.method.Method.{Method}
use Rattle.counting.specs.declared.method.Method.TheVariants.{RangeQuery, CountAugmentation, NeighborSharing, Cheapest}

-- each method of 01 leads to its own kernel alone, and `Cheapest` to any
pub data Leads : Method → Kernel → Type 0 where
  to_range_query : Leads RangeQuery kernel.RangeQuery
  to_count_augmentation : Leads CountAugmentation kernel.CountAugmentation
  to_neighbor_sharing : Leads NeighborSharing kernel.NeighborSharing
  to_any : (k : Kernel) → Leads Cheapest k

-- no threshold before place k is as great as the shortest route between two edges, and from k on none is below their greatest distance
pub record AllFrom (ts : List ℕ) (w : EdgePair) (k : ℕ) : Type 0 where
  pub before : (n : ℕ) → n < length ts → n < k → slice_index ts n < shortest_route_of w
  pub behind : (n : ℕ) → n < length ts → k ≤ n → greatest_distance_of w ≤ slice_index ts n

-- of at least two thresholds the last but one is below near, and the last is not below far
pub record LastAdmits (near far : ℕ) (ts : List ℕ) : Type 0 where
  pub several : 2 ≤ length ts
  pub before : slice_index_or ts (length ts - 2) 0 < near
  pub last : far ≤ slice_index ts (length ts - 1)

-- the same before place k and behind it
pub record PartedAt (ts : List ℕ) (w : EdgePair) (k : ℕ) : Type 0 where
  pub in_list : k < length ts
  pub before : (n : ℕ) → n < length ts → n < k → slice_index ts n < shortest_route_of w
  pub behind : (n : ℕ) → n < length ts → k < n → greatest_distance_of w ≤ slice_index ts n

-- thresholds of 32 bits
pub record Small (ts : List ℕ) : Type 0 where
  pub small : (k : ℕ) → k < length ts → slice_index ts k < 4294967296

-- where all pairs are added at once, or in two parts, the thresholds permit it
pub data Right (ts : List ℕ) (w : EdgePair) : Kernel → Type 0 where
  by_range_query : Right ts w kernel.RangeQuery
  by_count_augmentation : Right ts w kernel.CountAugmentation
  by_neighbor_sharing : Right ts w kernel.NeighborSharing
  all_at_once_of : {k : ℕ} → AllFrom ts w k → Right ts w (kernel.AtOnce k)
  in_two_parts : {k : ℕ} → PartedAt ts w k → Right ts w (kernel.Parted k)

-- rising thresholds, a ladder of the right length, and no more thresholds and events than there may be, whatever else the lists hold
pub record ListsFit (ts ladder xs ys : List ℕ) : Type 0 where
  pub rising : Ordered ts
  pub few_thresholds : length ts ≤ max_thresholds
  pub ladder_long : length ladder ≡ ladder_length
  pub few : length xs ≤ max_events
  pub few_others : length ys ≤ max_events

-- what a kernel has added: the range query by each pair's own distance, count augmentation by stored numbers, neighbour sharing by
-- cursors; nothing is said where there is none
pub data Adds (ts ladder : List ℕ) (w : EdgePair) (xs ys near_first near-second old new : List ℕ) : Kernel → Type 0 where
  tallies : Added (length ts) (tallied ladder w xs ys) old new → Adds ts ladder w xs ys near_first near-second old new kernel.RangeQuery
  looks_up : Added (length ts) (λ k. looked_up_pairs w (slice_index ts k) xs ys near_first near-second) old new → Adds ts ladder w xs ys near_first near-second old new kernel.CountAugmentation
  joins : Added (length ts) (λ k. shared_within (slice_index ts k) w xs ys) old new → Adds ts ladder w xs ys near_first near-second old new kernel.NeighborSharing
  none_at_once : {k : ℕ} → Adds ts ladder w xs ys near_first near-second old new (kernel.AtOnce k)
  none_parted : {k : ℕ} → Adds ts ladder w xs ys near_first near-second old new (kernel.Parted k)
