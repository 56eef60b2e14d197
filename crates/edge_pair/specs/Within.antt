-- Which places of two edges lie within a threshold of each other, by the routes between the edges' ends, and along the edge where the
-- two are one.
use Rattle.std.specs.Prelude.{ℕ, Bool, ◌&&◌, ◌||◌, List, length, nat_le, slice_index}
use Rattle.model.specs.Counting.{sum_below, count_if}
use Rattle.model.specs.Distance.{difference}
use Rattle.model.specs.Location.{Side, at_first, at_second, gap, reaches}
use Rattle.edge_pair.specs.Edges.{distance_between}
use Rattle.edge_pair.specs.declared.edges.EdgePair.{EdgePair}

-- the offset y of the second edge from the offset x of the first, by an end of each
unfoldable pub reached_by : ℕ → EdgePair → Side → Side → ℕ → ℕ → Bool
reached_by t w s s' x y = reaches t (gap w.length1 s x) (distance_between w s s') (gap w.length2 s' y)

-- by any two ends, or along the edge
unfoldable pub is_reached : ℕ → EdgePair → ℕ → ℕ → Bool
is_reached t w x y =
    ((reached_by t w at_first at_first x y || reached_by t w at_first at_second x y) ||
    (reached_by t w at_second at_first x y || reached_by t w at_second at_second x y)) ||
    (w.same && nat_le (difference x y) t)

-- the ordered pairs of an event of a run on the first edge and one of a run on the second that lie within t
unfoldable pub reached_pairs : ℕ → EdgePair → List ℕ → List ℕ → ℕ
reached_pairs t w xs ys = sum_below (length xs) (λ i. count_if (is_reached t w (slice_index xs i)) ys)
