-- What the function over two edges hands out: six cursors, their positions and moves. A route whose node distance is beyond the
-- bound has no cursor, and on two different edges there are no window cursors: 0 stands for 'no cursor', one more than the number otherwise.
use Rattle.std.specs.Prelude.{Bool, true, false, List, [], ◌∷◌, ◌++◌, map, ◌≡◌, ℕ, suc, pred, ◌*◌, eqb, length}
use Rattle.model.specs.Answer.{written}
use Rattle.model.specs.Checks.{network_lists, event_lists, network_values, lone_edge_check, event_values, order_check, room_check}
use Rattle.model.specs.Distance.{Distance, metres, none}
use Rattle.model.specs.Events.{having}
use Rattle.model.specs.Location.{Side, at_first, at_second, end_node}
use Rattle.model.specs.Network.{Network, size}
use Rattle.model.specs.NodeDistance.{bounded_distance}
use Rattle.model.specs.Refusal.{or_else, Check, accepted}
use Rattle.sweep.specs.Cursors.{positions, below, up_to, rest, moves}

-- a number of a cursor, if there is a cursor
unfoldable pub marked : Distance → ℕ → ℕ
marked none n = 0
marked (metres d) n = suc n

unfoldable pub marked_if : Bool → ℕ → ℕ
marked_if true n = suc n
marked_if false n = 0

-- of two edge numbers: the offsets laid out on each, and the bounded distance between two of their ends
module _ (net : Network) (es xs : List ℕ) (e f t bound : ℕ) where
  abbrev pub on_first : List ℕ
  on_first = having e es xs

  abbrev pub on_second : List ℕ
  on_second = having f es xs

  abbrev pub between_ends : Side → Side → Distance
  between_ends s s' = bounded_distance net bound (end_node net (pred e) s) (end_node net (pred f) s')

  unfoldable pub route_positions : Side → Side → List ℕ
  route_positions s s' = positions t (size net (pred e)) s (between_ends s s') (size net (pred f)) s' on_second on_first

  unfoldable pub cursor_positions : List ℕ
  cursor_positions =
      map (marked (between_ends at_first at_first)) (route_positions at_first at_first)
      ++ (map (marked (between_ends at_first at_second)) (route_positions at_first at_second)
      ++ (map (marked (between_ends at_second at_first)) (route_positions at_second at_first)
      ++ (map (marked (between_ends at_second at_second)) (route_positions at_second at_second)
      ++ (map (λ x. marked_if (eqb e f) (below t on_second x)) on_first ++ map (λ x. marked_if (eqb e f) (up_to t on_second x)) on_first))))

  unfoldable pub route_moves : Side → Side → ℕ
  route_moves s s' = marked (between_ends s s') (moves (rest s on_second) (route_positions s s'))

  unfoldable pub cursor_moves : List ℕ
  cursor_moves =
      route_moves at_first at_first
      ∷ route_moves at_first at_second
      ∷ route_moves at_second at_first
      ∷ route_moves at_second at_second
      ∷ marked_if (eqb e f) (moves 0 (map (below t on_second) on_first))
      ∷ marked_if (eqb e f) (moves 0 (map (up_to t on_second) on_first))
      ∷ []

-- 2 (positions: six for each event on the first edge; moves: six), 6, 7, 9, 13 (the two edges at place 0), 13 to 15, 17
unfoldable pub cursors_check : Network → List ℕ → List ℕ → ℕ → ℕ → List ℕ → List ℕ → Check
cursors_check net es xs e f ps ms =
    or_else (network_lists net)
    (or_else (event_lists es xs)
    (or_else (room_check (6 * length (having e es xs)) ps)
    (or_else (room_check 6 ms)
    (or_else (network_values accepted net)
    (or_else (lone_edge_check net e) (or_else (lone_edge_check net f) (or_else (event_values net es xs) (order_check es xs))))))))

-- the promise of the function over two edges
pub record CursorsAnswered (net : Network) (es xs : List ℕ) (e f t bound : ℕ) (ps ms : List ℕ) (r : Check) (ps' ms' : List ℕ) : Type 0 where
  pub verdict : r ≡ cursors_check net es xs e f ps ms
  pub positions_after : ps' ≡ written (cursors_check net es xs e f ps ms) (cursor_positions net es xs e f t bound) ps
  pub moves_after : ms' ≡ written (cursors_check net es xs e f ps ms) (cursor_moves net es xs e f t bound) ms
