-- What pair_counts claims of the six cursors of two edges: each moves one way only, and no more than there are events on the second.
use Rattle.std.specs.Prelude.{List, map, ℕ, ◌≤◌, length}
use Rattle.model.specs.Events.{having}
use Rattle.model.specs.Location.{Side}
use Rattle.model.specs.Network.{Network}
use Rattle.sweep.specs.Answers.{route_positions}
use Rattle.sweep.specs.Cursors.{below, up_to, rest, moves, OneWay, Rising}

-- 01: moving one way only, rest included; and what follows for the sums of moves, the bound of demand 3
pub record MovesOneWay (net : Network) (es xs : List ℕ) (e f t bound : ℕ) : Type 0 where
  pub routes_one_way : (s s' : Side) → OneWay s (rest s (having f es xs)) (route_positions net es xs e f t bound s s')
  pub below_rises : Rising 0 (map (below t (having f es xs)) (having e es xs))
  pub up_to_rises : Rising 0 (map (up_to t (having f es xs)) (having e es xs))
  pub route_moves_few : (s s' : Side) → moves (rest s (having f es xs)) (route_positions net es xs e f t bound s s') ≤ length (having f es xs)
  pub below_moves_few : moves 0 (map (below t (having f es xs)) (having e es xs)) ≤ length (having f es xs)
  pub up_to_moves_few : moves 0 (map (up_to t (having f es xs)) (having e es xs)) ≤ length (having f es xs)
