-- What the six cursors join, moved on from event to event of the first edge: that this is what lies within the threshold, over events
-- laid out, is a law (proofs/Laws/Within).
use Rattle.std.specs.Prelude.{cond, List, [], ◌∷◌, ℕ, ◌+◌, max, ltb, length}
use Rattle.model.specs.Counting.{covered}
use Rattle.edge_pair.specs.Ways.{shortest_route_of}
use Rattle.edge_pair.specs.declared.edges.EdgePair.{EdgePair}
use Rattle.neighbor_sharing.specs.Stands.{stands_at_rest, stands_moved}
use Rattle.neighbor_sharing.specs.declared.moving.Stands.{Stands}

-- how many of the n events of the second edge are reached, by where the six cursors stand: the first ones by the two routes that
-- arrive at its first end, the last ones by those that arrive at its second, and the window
unfoldable pub joined_from : ℕ → Stands → ℕ
joined_from n m = covered n (max m.ff m.sf) (max m.fs m.ss) m.low m.high

-- what is reached from events of the first edge, added up, by cursors moved on from one to the next, whatever the events are
unfoldable pub shared_from : ℕ → EdgePair → List ℕ → Stands → List ℕ → ℕ
shared_from t w ys from [] = 0
shared_from t w ys from (x ∷ xs) = joined_from (length ys) (stands_moved t w ys x from) + shared_from t w ys (stands_moved t w ys x from) xs

-- the cursors being at rest before the first
unfoldable pub shared : ℕ → EdgePair → List ℕ → List ℕ → ℕ
shared t w xs ys = shared_from t w ys (stands_at_rest ys) xs

-- what is joined at a threshold; nothing at one below the shortest route
unfoldable pub shared_within : ℕ → EdgePair → List ℕ → List ℕ → ℕ
shared_within t w xs ys = cond (ltb t (shortest_route_of w)) 0 (shared t w xs ys)
