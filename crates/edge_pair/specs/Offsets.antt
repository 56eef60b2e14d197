-- The offsets of events on an edge, laid out.
use Rattle.std.specs.Prelude.{ℕ, ◌<◌, ◌≤◌, List, length, slice_index}
use Rattle.model.specs.Limits.{max_events}
use Rattle.edge_pair.specs.declared.edges.EdgePair.{EdgePair}

-- in rising order: none is below one before it
pub record Ordered (xs : List ℕ) : Type 0 where
  pub in_order : (i j : ℕ) → i ≤ j → j < length xs → slice_index xs i ≤ slice_index xs j

-- none is beyond an edge of length p
pub record OnEdge (p : ℕ) (xs : List ℕ) : Type 0 where
  pub on : (k : ℕ) → k < length xs → slice_index xs k ≤ p

-- the offsets of events on an edge of length p, in rising order
pub record Laid (p : ℕ) (xs : List ℕ) : Type 0 where
  pub ordered : Ordered xs
  pub on_edge : OnEdge p xs
  pub few : length xs ≤ max_events

-- on two edges
pub record EdgesLaid (w : EdgePair) (xs ys : List ℕ) : Type 0 where
  pub first_laid : Laid w.length1 xs
  pub second_laid : Laid w.length2 ys
