-- One cursor: its kinds, how far it reaches, and where it comes to stand when it is moved on from any position.
use Rattle.std.specs.Prelude.{Bool, true, false, cond, List, ℕ, zero, suc, ◌+◌, ◌-◌, min, ltb, length, get_or}
use Rattle.model.specs.Location.{Side, at_first, at_second}
use Rattle.edge_pair.specs.Edges.{side_of}
use Rattle.edge_pair.specs.Ways.{way}
use Rattle.sweep.specs.declared.cursor.Cursor.{Cursor}

-- the cursor of a route: at threshold t, the first edge's length being p. Where the code is that of no route it reaches nothing from
-- any offset up to p
unfoldable pub route_cursor : ℕ → ℕ → Bool → ℕ → Bool → Cursor
route_cursor t p falling code first =
    record { falling = falling; plus = t; minus = cond falling (way code) (p + way code); first = first }

-- the cursor of the offsets below own offset less threshold, and that of those not above own offset plus threshold
unfoldable pub below_cursor : ℕ → Cursor
below_cursor t = record { falling = false; plus = 0; minus = t + 1; first = true }

unfoldable pub up_to_cursor : ℕ → Cursor
up_to_cursor t = record { falling = false; plus = t; minus = 0; first = true }

-- how far a cursor reaches on the second edge from the offset x of the first: to gaps below this number
unfoldable pub reach : Cursor → ℕ → ℕ
reach c x = cond c.falling ((c.plus + 1) - (x + c.minus)) ((x + (c.plus + 1)) - c.minus)

-- the gap of the event at place k from a side of the second edge, of length q
unfoldable pub gap_at : ℕ → Side → List ℕ → ℕ → ℕ
gap_at q at_first ys k = get_or ys k 0
gap_at q at_second ys k = q - get_or ys (length ys - 1 - k) 0

-- that event is within a reach
unfoldable pub is_within_of : ℕ → Side → ℕ → List ℕ → ℕ → Bool
is_within_of q s n ys k = ltb (gap_at q s ys k) n

-- down from a position to behind the first place on the way that passes, or to 0
unfoldable pub fallen_from : (ℕ → Bool) → ℕ → ℕ
fallen_from test zero = 0
fallen_from test (suc k) = cond (test k) (suc k) (fallen_from test k)

-- up from position k to the first place that does not pass, over so many places at most
unfoldable pub risen_from : (ℕ → Bool) → ℕ → ℕ → ℕ
risen_from test zero k = k
risen_from test (suc left) k = cond (test k) (risen_from test left (suc k)) k

-- where a cursor comes to stand at the offset x of the first edge, moved on from a position
unfoldable pub moved_on : Cursor → ℕ → List ℕ → ℕ → ℕ → ℕ
moved_on c q ys x position =
    cond
    c.falling
    (fallen_from (is_within_of q (side_of c.first) (reach c x) ys) (min position (length ys)))
    (risen_from (is_within_of q (side_of c.first) (reach c x) ys) (length ys - position) position)
