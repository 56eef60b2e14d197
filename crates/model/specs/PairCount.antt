-- The pair count of a set at a threshold (document 003, Definition 1 and Problem 1), and what it counts in terms of walks.
use Rattle.std.specs.Prelude.{Bool, ◌&&◌, not, ◌≡◌, ℕ, ◌≤◌, ◌<◌, eqb, length, get_or}
use mathlib.Core.List.{List, Memᴰ}
use Rattle.model.specs.Counting.{sum_below, count_below_of, NoRepeats}
use Rattle.model.specs.Network.{Network}
use Rattle.model.specs.Distance.{Distance, within}
use Rattle.model.specs.Location.{LocationWalk, location_distance_of}
use Rattle.model.specs.Events.{Event, event, event_location}

-- the event at a position of a list
abbrev pub event_at : List Event → ℕ → Event
event_at es i = get_or es i (event 0 0)

-- the distance of two events
unfoldable pub event_distance : Network → Event → Event → Distance
event_distance net e f = location_distance_of net (event_location net e) (event_location net f)

-- the events at the different positions i and j lie within the threshold
unfoldable pub is_pair : Network → List Event → ℕ → ℕ → ℕ → Bool
is_pair net es t i j = not (eqb i j) && within (event_distance net (event_at es i) (event_at es j)) t

-- 01: the pair count, the number of ordered pairs of different events (by position) at a distance not above the threshold
unfoldable pub pair_count : Network → List Event → ℕ → ℕ
pair_count net es t = sum_below (length es) (λ i. count_below_of (length es) (is_pair net es t i))

-- two positions of a list
pub record Pair : Type 0 where
  pub i : ℕ
  pub j : ℕ

-- i and j are different positions of the list whose events some walk no longer than the threshold joins
pub record Joined (net : Network) (es : List Event) (t : ℕ) (p : Pair) : Type 0 where
  pub i_in : p.i < length es
  pub j_in : p.j < length es
  pub different : p.i ≡ p.j → ⊥
  pub long : ℕ
  pub walk : LocationWalk net (event_location net (event_at es p.i)) (event_location net (event_at es p.j)) long
  pub short : long ≤ t

-- count is the number of ordered pairs of different events that some walk no longer than the threshold joins:
-- a list with no repeats that holds exactly those pairs has that length. It does not speak of the distance.
-- Law (proofs/Laws/PairCount, `counts-joined`): where every edge ends at nodes, `pair_count` is such.
pub record CountsJoined (net : Network) (es : List Event) (t : ℕ) (count : ℕ) : Type 0 where
  pub pairs : List Pair
  pub no_repeats : NoRepeats pairs
  pub all_joined : (p : Pair) → Memᴰ p pairs → Joined net es t p
  pub holds_all : (p : Pair) → Joined net es t p → Memᴰ p pairs
  pub as_many : length pairs ≡ count
