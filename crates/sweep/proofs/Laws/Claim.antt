-- For events laid out, each of the six cursors of two edges moves one way only, and no more than there are events on the second edge.
use mathlib.Core.List.{List, map}
use Prim.Native.Nat.{ℕ, pred, ◌≤◌}
use native.Mathlib.Omega.{arith}
use lib.ListN.{length}
use Rattle.model.proofs.Laws.Counting.{count-at-most}
use Rattle.model.specs.Events.{events, having, InOrder}
use Rattle.model.specs.Location.{at_second, end_node}
use Rattle.model.specs.Network.{Network, size}
use Rattle.model.specs.NodeDistance.{bounded_distance}
use Rattle.sweep.specs.Answers.{route_positions}
use Rattle.sweep.specs.Cursors.{below, up_to, rest, moves, Rising}
use Rattle.sweep.specs.OneWay.{MovesOneWay}
use Rattle.sweep.proofs.Laws.OnEdges.{on-edge-ordered}
use Rattle.sweep.proofs.Laws.OneWay.{moves-few, last-in}
use Rattle.sweep.proofs.Laws.Positions as cursor

below_in : (t : ℕ) (ys : List ℕ) (x : ℕ) → below t ys x ≤ length ys
unfolding below
below_in t ys x = count-at-most _ ys

up-to-in : (t : ℕ) (ys : List ℕ) (x : ℕ) → up_to t ys x ≤ length ys
unfolding up_to
up-to-in t ys x = count-at-most _ ys

-- a rising cursor whose positions are no more than there are events
few-of : (f : ℕ → ℕ) (xs ys : List ℕ) → ((x : ℕ) → f x ≤ length ys) → Rising 0 (map f xs) → moves 0 (map f xs) ≤ length ys
unfolding rest
few-of f xs ys all up = moves-few at_second ys (map f xs) up (last-in f (length ys) all xs 0 (omega arith))

pub moves-one-way : (net : Network) (es xs : List ℕ) (e f t bound : ℕ) → InOrder (events es xs) → MovesOneWay net es xs e f t bound
unfolding route_positions
moves-one-way net es xs e f t bound o =
    let on_first = having e es xs in
    let on_second = having f es xs in
    let ordered = on-edge-ordered es xs o e in
    let low = cursor.below_rises t on_first on_second ordered in
    let high = cursor.up_to_rises t on_first on_second ordered in
    record {
      routes_one_way = λ s s'. cursor.one_way t (size net (pred e)) (bounded_distance net bound (end_node net (pred e) s) (end_node net (pred f) s')) (size net (pred f)) s' on_second s on_first ordered;
      below_rises = low;
      up_to_rises = high;
      route_moves_few = λ s s'. cursor.few_moves t (size net (pred e)) (bounded_distance net bound (end_node net (pred e) s) (end_node net (pred f) s')) (size net (pred f)) s' on_second s on_first ordered;
      below_moves_few = few-of (below t on_second) on_first on_second (below_in t on_second) low;
      up_to_moves_few = few-of (up_to t on_second) on_first on_second (up-to-in t on_second) high;
    }
