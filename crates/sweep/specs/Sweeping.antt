-- What the inner functions promise of one cursor: cited by no public function.
use Rattle.std.specs.Prelude.{List, map, ◌≡◌, ℕ, suc, ◌≤◌, ltb, length}
use Rattle.model.specs.Counting.{count_if}
use Rattle.model.specs.Limits.{max_events}
use Rattle.model.specs.Location.{Side, at_first, at_second, gap}
use Rattle.edge_pair.specs.Offsets.{Ordered}
use Rattle.sweep.specs.Cursors.{rest, moves}
use Rattle.sweep.specs.Moving.{reach}
use Rattle.edge_pair.specs.Edges.{side_of}
use Rattle.sweep.specs.declared.cursor.Cursor.{Cursor}

-- how many events have a gap to a side of the second edge, of length q, below a number
unfoldable pub reached : ℕ → Side → ℕ → List ℕ → ℕ
reached q s n ys = count_if (λ y. ltb (gap q s y) n) ys

-- where a cursor stands at the offset x of the first edge
unfoldable pub standing : Cursor → ℕ → List ℕ → ℕ → ℕ
standing c q ys x = reached q (side_of c.first) (reach c x) ys

-- where it stands before the first event
unfoldable pub resting : Cursor → List ℕ → ℕ
resting c ys = rest (side_of c.falling) ys

-- from a to b is the way that a cursor of this side on the first edge moves
abbrev pub Passes : Side → ℕ → ℕ → Type 0
Passes at_first a b = b ≤ a
Passes at_second a b = a ≤ b

-- what it takes for a cursor that is moved on to the offset x to come to stand there: it has not passed that place
pub record Movable (c : Cursor) (q : ℕ) (ys : List ℕ) (x position : ℕ) : Type 0 where
  pub ordered : Ordered ys
  pub position_in : position ≤ length ys
  pub onward : Passes (side_of c.falling) position (standing c q ys x)

-- what a sweep of one cursor takes: the offsets on both edges in order, and room for its positions
pub record Sweepable (xs ys out : List ℕ) : Type 0 where
  pub first_ordered : Ordered xs
  pub second_ordered : Ordered ys
  pub few : length ys ≤ max_events
  pub room : length out ≡ length xs

-- its positions at the offsets xs, and its moves, each as one more
pub record Swept (c : Cursor) (q : ℕ) (xs ys : List ℕ) (r : ℕ) (out : List ℕ) : Type 0 where
  pub positions_are : out ≡ map (λ x. suc (standing c q ys x)) xs
  pub moves_are : r ≡ suc (moves (resting c ys) (map (standing c q ys) xs))
