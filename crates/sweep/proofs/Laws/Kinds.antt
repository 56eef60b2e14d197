-- The cursors of the six kinds stand where their definitions say.
use mathlib.Core.Bool.{Bool, true, false}
use mathlib.Core.List.{List, [], ◌∷◌, map}
use mathlib.Core.Path.{◌≡◌, ◌∙◌, refl, sym, ap, ap₂}
use Prim.Native.Nat.{ℕ, suc, ◌+◌, ◌-◌, ◌≤◌, ◌<◌}
use native.Mathlib.Decide.{dec_le, dec_lt}
use native.Mathlib.Omega.{arith}
use borrow.Author.Tests.{le-leb, lt-leb, lt-ltb, le-ltb}
use lib.Dec.{leb, ltb}
use lib.ListN.{length, get_or}
use Rattle.model.specs.Distance.{decode}
use Rattle.model.specs.Location.{gap, reaches}
use Rattle.model.proofs.Laws.Counting.{count-cong}
use Rattle.sweep.specs.Cursors.{position, below, up_to}
use Rattle.sweep.specs.Moving.{reach, route_cursor, below_cursor, up_to_cursor}
use Rattle.edge_pair.specs.Edges.{side_of}
use Rattle.edge_pair.specs.Ways.{way}
use Rattle.edge_pair.proofs.Laws.Arrival.{by_way}
use Rattle.sweep.specs.Sweeping.{reached, standing}

-- what is left of the threshold for the second edge
route-reach : (t p code x : ℕ) (falling first : Bool) → x ≤ p → reach (route_cursor t p falling code first) x ≡ suc t - (gap p (side_of falling) x + way code)
unfolding reach route_cursor side_of gap
route-reach t p code x true first h = omega arith
route-reach t p code x false first h = omega arith

-- a gap below what is left is one that adds up to no more than the threshold
left-of : (t m b : ℕ) → ltb b (suc t - m) ≡ leb (m + b) t
left-of t m b = go (dec_le (m + b) t)
  where
    go : Dec (m + b ≤ t) → ltb b (suc t - m) ≡ leb (m + b) t
    go (yes h) = lt-ltb b (suc t - m) (omega arith) ∙ sym (le-leb (m + b) t h)
    go (no h) = le-ltb b (suc t - m) (omega arith) ∙ sym (lt-leb (m + b) t (omega arith))

-- the cursor of a route reaches what the route does
pub route-reaches : (t p code x : ℕ) (falling first : Bool) (b : ℕ) → t < 4294967296 → x ≤ p → ltb b (reach (route_cursor t p falling code first) x) ≡ reaches t (gap p (side_of falling) x) (decode code) b
route-reaches t p code x falling first b low h =
    ap (ltb b) (route-reach t p code x falling first h)
    ∙ left-of t (gap p (side_of falling) x + way code) b
    ∙ sym (by_way t (gap p (side_of falling) x) code b low)

pub route-standing : (t p q code : ℕ) (falling first : Bool) (ys : List ℕ) (x : ℕ) → t < 4294967296 → x ≤ p → standing (route_cursor t p falling code first) q ys x ≡ position t p (side_of falling) (decode code) q (side_of first) ys x
unfolding standing reached route_cursor position
route-standing t p q code falling first ys x low h =
    count-cong _ _ ys (λ y. route-reaches t p code x falling first (gap q (side_of first) y) low h)

pub below-standing : (t q : ℕ) (ys : List ℕ) (x : ℕ) → standing (below_cursor t) q ys x ≡ below t ys x
unfolding standing reached below_cursor reach side_of gap below
below-standing t q ys x = count-cong _ _ ys (λ y. go y (dec_lt (y + t) x))
  where
    go : (y : ℕ) → Dec (y + t < x) → ltb y ((x + (0 + 1)) - (t + 1)) ≡ ltb (y + t) x
    go y (yes h) = lt-ltb y ((x + (0 + 1)) - (t + 1)) (omega arith) ∙ sym (lt-ltb (y + t) x h)
    go y (no h) = le-ltb y ((x + (0 + 1)) - (t + 1)) (omega arith) ∙ sym (le-ltb (y + t) x (omega arith))

pub up-to-standing : (t q : ℕ) (ys : List ℕ) (x : ℕ) → standing (up_to_cursor t) q ys x ≡ up_to t ys x
unfolding standing reached up_to_cursor reach side_of gap up_to
up-to-standing t q ys x = count-cong _ _ ys (λ y. go y (dec_le y (x + t)))
  where
    go : (y : ℕ) → Dec (y ≤ x + t) → ltb y ((x + (t + 1)) - 0) ≡ leb y (x + t)
    go y (yes h) = lt-ltb y ((x + (t + 1)) - 0) (omega arith) ∙ sym (le-leb y (x + t) h)
    go y (no h) = le-ltb y ((x + (t + 1)) - 0) (omega arith) ∙ sym (lt-leb y (x + t) (omega arith))

-- lists of values that agree on every element
pub map-agree : {B : Type 0} (f g : ℕ → B) (xs : List ℕ) → ((k : ℕ) → k < length xs → f (get_or xs k 0) ≡ g (get_or xs k 0)) → map f xs ≡ map g xs
map-agree f g [] h = refl
map-agree f g (x ∷ xs) h = ap₂ ◌∷◌ (h 0 (omega arith)) (map-agree f g xs (λ k l. h (suc k) (omega arith)))
