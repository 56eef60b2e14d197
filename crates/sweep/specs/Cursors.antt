-- Cursors (01: marks): for each event of the first edge, how many events of the second edge a route reaches.
use Rattle.std.specs.Prelude.{List, [], ◌∷◌, map, ℕ, ◌+◌, ◌≤◌, leb, ltb, length}
use Rattle.model.specs.Counting.{count_if}
use Rattle.model.specs.Distance.{Distance, difference}
use Rattle.model.specs.Location.{Side, at_first, at_second, gap, reaches}

-- a route: an end of the first edge, the node distance from it, and an end of the second edge; p and q are the edges' lengths.
-- Its cursor's position at the offset x of the first edge, ys being the offsets on the second
unfoldable pub position : ℕ → ℕ → Side → Distance → ℕ → Side → List ℕ → ℕ → ℕ
position t p s d q s' ys x = count_if (λ y. reaches t (gap p s x) d (gap q s' y)) ys

unfoldable pub positions : ℕ → ℕ → Side → Distance → ℕ → Side → List ℕ → List ℕ → List ℕ
positions t p s d q s' ys xs = map (position t p s d q s' ys) xs

-- the two further cursors on one edge: the offsets below own offset less threshold, and those not above own offset plus threshold
unfoldable pub below : ℕ → List ℕ → ℕ → ℕ
below t ys x = count_if (λ y. ltb (y + t) x) ys

unfoldable pub up_to : ℕ → List ℕ → ℕ → ℕ
up_to t ys x = count_if (λ y. leb y (x + t)) ys

-- where a cursor rests before the first event: a route whose gap on the first edge is the offset (at_first) has a falling cursor,
-- which rests at the number of events of the second edge; the others rise and rest at 0
unfoldable pub rest : Side → List ℕ → ℕ
rest at_first ys = length ys
rest at_second ys = 0

-- 01: a cursor's moves, the summed differences of its positions from rest on
unfoldable pub moves : ℕ → List ℕ → ℕ
moves from [] = 0
moves from (p ∷ ps) = difference from p + moves p ps

-- moving one way only: no position is above the one before it (falling), or none is below it (rising), rest included
pub data Falling : ℕ → List ℕ → Type 0 where
  fallen : {from : ℕ} → Falling from []
  falls : {from p : ℕ} {ps : List ℕ} → p ≤ from → Falling p ps → Falling from (p ∷ ps)

pub data Rising : ℕ → List ℕ → Type 0 where
  risen : {from : ℕ} → Rising from []
  rises : {from p : ℕ} {ps : List ℕ} → from ≤ p → Rising p ps → Rising from (p ∷ ps)

-- a cursor of a route moves one way by the side of its gap on the first edge
abbrev pub OneWay : Side → ℕ → List ℕ → Type 0
OneWay at_first from ps = Falling from ps
OneWay at_second from ps = Rising from ps
