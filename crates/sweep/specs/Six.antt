-- What the inner functions promise of the six cursors of two edges: cited by no public function.
use Rattle.model.specs.Refusal.{accepted}
use Rattle.std.specs.Prelude.{Bool, List, [], ◌∷◌, ◌++◌, map, ◌≡◌, ℕ, ◌+◌, ◌*◌, ◌≤◌, length, take, drop}
use Rattle.model.specs.Answer.{written}
use Rattle.model.specs.Distance.{Distance}
use Rattle.model.specs.Limits.{max_events}
use Rattle.model.specs.Location.{Side, at_first, at_second}
use Rattle.sweep.specs.Answers.{marked, marked_if}
use Rattle.sweep.specs.Cursors.{positions, below, up_to, rest, moves}
use Rattle.edge_pair.specs.Offsets.{Ordered, Laid}
use Rattle.edge_pair.specs.Edges.{distance_between}
use Rattle.sweep.specs.Sweeping.{standing, resting}
use Rattle.sweep.specs.declared.cursor.Cursor.{Cursor}
use Rattle.edge_pair.specs.declared.edges.EdgePair.{EdgePair}

-- the six lists of positions one after the other, and the six sums of moves: d gives the distance for each choice of ends,
-- same whether the two edges are one
module _ (t p q : ℕ) (d : Side → Side → Distance) (same : Bool) (xs ys : List ℕ) where
  unfoldable pub route_marks : Side → Side → List ℕ
  route_marks s s' = map (marked (d s s')) (positions t p s (d s s') q s' ys xs)

  unfoldable pub route_sum : Side → Side → ℕ
  route_sum s s' = marked (d s s') (moves (rest s ys) (positions t p s (d s s') q s' ys xs))

  unfoldable pub window_marks : (List ℕ → ℕ → ℕ) → List ℕ
  window_marks f = map (λ x. marked_if same (f ys x)) xs

  unfoldable pub window_sum : (List ℕ → ℕ → ℕ) → ℕ
  window_sum f = marked_if same (moves 0 (map (f ys) xs))

  unfoldable pub six_marks : List ℕ
  six_marks =
      route_marks at_first at_first
      ++ (route_marks at_first at_second
      ++ (route_marks at_second at_first
      ++ (route_marks at_second at_second ++ (window_marks (below t) ++ window_marks (up_to t)))))

  unfoldable pub six_sums : List ℕ
  six_sums =
      route_sum at_first at_first
      ∷ route_sum at_first at_second
      ∷ route_sum at_second at_first
      ∷ route_sum at_second at_second
      ∷ window_sum (below t)
      ∷ window_sum (up_to t)
      ∷ []

-- a list with a part put in its place from an index on
unfoldable pub placed : ℕ → List ℕ → List ℕ → List ℕ
placed from part l = take from l ++ (part ++ drop (from + length part) l)

-- one cursor's positions and moves, each as one more, where there is a cursor
pub record PartSweepable (xs ys : List ℕ) (from : ℕ) (l : List ℕ) : Type 0 where
  pub first_ordered : Ordered xs
  pub second_ordered : Ordered ys
  pub few : length ys ≤ max_events
  pub room : from + length xs ≤ length l

pub record PartSwept (exists : Bool) (c : Cursor) (q : ℕ) (xs ys : List ℕ) (from : ℕ) (l : List ℕ) (r : ℕ) (l' : List ℕ) : Type 0 where
  pub positions_are : l' ≡ placed from (map (λ x. marked_if exists (standing c q ys x)) xs) l
  pub moves_are : r ≡ marked_if exists (moves (resting c ys) (map (standing c q ys) xs))

-- the same for a route
pub record RouteSweepable (w : EdgePair) (xs ys : List ℕ) (from : ℕ) (l : List ℕ) : Type 0 where
  pub first_laid : Laid w.length1 xs
  pub second_laid : Laid w.length2 ys
  pub room : from + length xs ≤ length l

pub record RouteSwept (t : ℕ) (w : EdgePair) (s s' : Side) (xs ys : List ℕ) (from : ℕ) (l : List ℕ) (r : ℕ) (l' : List ℕ) : Type 0 where
  pub positions_are : l' ≡ placed from (route_marks t w.length1 w.length2 (distance_between w) w.same xs ys s s') l
  pub moves_are : r ≡ route_sum t w.length1 w.length2 (distance_between w) w.same xs ys s s'

-- and for all six
pub record EdgesSweepable (w : EdgePair) (xs ys out sums : List ℕ) : Type 0 where
  pub first_laid : Laid w.length1 xs
  pub second_laid : Laid w.length2 ys
  pub room : 6 * length xs ≤ length out
  pub sums_room : 6 ≤ length sums

pub record EdgesSwept (t : ℕ) (w : EdgePair) (xs ys out sums out' sums' : List ℕ) : Type 0 where
  pub positions_are : out' ≡ written accepted (six_marks t w.length1 w.length2 (distance_between w) w.same xs ys) out
  pub moves_are : sums' ≡ written accepted (six_sums t w.length1 w.length2 (distance_between w) w.same xs ys) sums
