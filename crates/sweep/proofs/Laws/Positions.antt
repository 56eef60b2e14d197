-- The positions of the six cursors: each moves one way only, by the side of its gap on the first edge, and no more than there are events.
use mathlib.Core.Bool.{true, false≢true}
use mathlib.Core.List.{List, map}
use mathlib.Core.Path.{◌≡◌}
use Prim.Native.Nat.{ℕ, ◌+◌, ◌-◌, ◌≤◌}
use native.Mathlib.Omega.{arith}
use borrow.Author.Tests.{leb-true, le-leb, ltb-true, lt-ltb}
use lib.ListN.{length}
use Rattle.model.specs.Distance.{Distance, metres, none, plus, within}
use Rattle.model.specs.Location.{Side, at_first, at_second, gap, reaches}
use Rattle.model.proofs.Laws.Counting.{count-mono, count-at-most}
use Rattle.sweep.proofs.Laws.OneWay.{one-way-of, moves-few, last-in, rest_in, from-rest}
use Rattle.sweep.specs.Cursors.{position, positions, below, up_to, rest, moves, OneWay, Rising}
use Rattle.edge_pair.specs.Offsets.{Ordered}
use Rattle.sweep.specs.Sweeping.{Passes}

-- lesser gaps are reached too
pub reaches-less : (t a a' : ℕ) (d : Distance) (b b' : ℕ) → a ≤ a' → b ≤ b' → reaches t a' d b' ≡ true → reaches t a d b ≡ true
unfolding reaches plus within
reaches-less t a a' (metres n) b b' h k e = le-leb (a + n + b) t (omega (arith, leb-true (a' + n + b') t e))
reaches-less t a a' none b b' h k e = absurd (false≢true e)

module _ (t p : ℕ) (d : Distance) (q : ℕ) (s' : Side) (ys : List ℕ) where
  -- a position moves one way with the offset on the first edge
  pub position-on : (s : Side) (x y : ℕ) → x ≤ y → Passes s (position t p s d q s' ys x) (position t p s d q s' ys y)
  unfolding position gap
  position-on at_first x y h = count-mono _ _ ys (λ z e. reaches-less t x y d (gap q s' z) (gap q s' z) h (omega arith) e)
  position-on at_second x y h = count-mono _ _ ys (λ z e. reaches-less t (p - y) (p - x) d (gap q s' z) (gap q s' z) (omega arith) (omega arith) e)

  pub position_in : (s : Side) (x : ℕ) → position t p s d q s' ys x ≤ length ys
  unfolding position
  position_in s x = count-at-most _ ys

  -- moving one way only, rest included
  pub one_way : (s : Side) (xs : List ℕ) → Ordered xs → OneWay s (rest s ys) (positions t p s d q s' ys xs)
  unfolding positions
  one_way s xs o =
      one-way-of s (position t p s d q s' ys) (position-on s) (rest s ys) xs (λ k h. from-rest s _ ys (position_in s _)) o

  -- the moves of a cursor are no more than the events of the second edge
  pub few_moves : (s : Side) (xs : List ℕ) → Ordered xs → moves (rest s ys) (positions t p s d q s' ys xs) ≤ length ys
  unfolding positions
  few_moves s xs o = moves-few s ys _ (one_way s xs o) (last-in (position t p s d q s' ys) (length ys) (position_in s) xs (rest s ys) (rest_in s ys))

-- the window's two cursors rise from 0
pub below_on : (t : ℕ) (ys : List ℕ) (x y : ℕ) → x ≤ y → below t ys x ≤ below t ys y
unfolding below
below_on t ys x y h = count-mono _ _ ys (λ z e. lt-ltb (z + t) y (omega (arith, ltb-true (z + t) x e)))

pub up-to-on : (t : ℕ) (ys : List ℕ) (x y : ℕ) → x ≤ y → up_to t ys x ≤ up_to t ys y
unfolding up_to
up-to-on t ys x y h = count-mono _ _ ys (λ z e. le-leb z (y + t) (omega (arith, leb-true z (x + t) e)))

pub below_rises : (t : ℕ) (xs ys : List ℕ) → Ordered xs → Rising 0 (map (below t ys) xs)
below_rises t xs ys o = one-way-of at_second (below t ys) (below_on t ys) 0 xs (λ k h. omega arith) o

pub up_to_rises : (t : ℕ) (xs ys : List ℕ) → Ordered xs → Rising 0 (map (up_to t ys) xs)
up_to_rises t xs ys o = one-way-of at_second (up_to t ys) (up-to-on t ys) 0 xs (λ k h. omega arith) o
