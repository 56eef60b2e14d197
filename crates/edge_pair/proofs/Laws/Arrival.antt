-- What is reached by the routes is what the shortest way to an end of the second edge, and the gap from there, are within the threshold.
use Rattle.std.proofs.Common.{◌≡◌, ℕ, zero, suc, ◌+◌, ◌-◌, ◌*◌, ◌<◌, ◌≤◌, min, Bool, true, false, ◌&&◌, ◌||◌, leb, List, length, get_or, sym, refl, ap, ◌∙◌, ap₂, suc-mul, arith, le-leb}
use native.Mathlib.Decide.{dec_le}
use borrow.Author.Tests.{lt-leb}
use Rattle.model.proofs.Laws.Arrival.{by-arrival}
use Rattle.model.proofs.Laws.Counting.{sum-below-cong, sum-below-zero}
use Rattle.model.proofs.Laws.Cover.{all_pass, none_pass}
use Rattle.model.specs.Counting.{sum_below}
use Rattle.model.specs.Distance.{plus, within, decode, difference}
use Rattle.model.specs.Location.{Side, at_first, at_second, gap, reaches}
use Rattle.edge_pair.proofs.Laws.Ways.{way-none, way-some}
use Rattle.edge_pair.specs.Edges.{code_between_of, distance_between}
use Rattle.edge_pair.specs.Ways.{way, to_end_of, shortest_route_of, greatest_distance_of}
use Rattle.edge_pair.specs.Offsets.{OnEdge}
use Rattle.edge_pair.specs.Within.{reached_by, is_reached, reached_pairs}
use Rattle.edge_pair.specs.declared.edges.EdgePair.{EdgePair}

-- one route, by its code
pub by_way : (t a code b : ℕ) → t < 4294967296 → reaches t a (decode code) b ≡ leb (a + way code + b) t
unfolding reaches plus within decode
by_way t a zero b h = sym (lt-leb (a + way 0 + b) t (omega (arith, way-none 0 refl)))
by_way t a (suc n) b h = ap (λ (m : ℕ). leb (a + m + b) t) {x = n} {y = way (suc n)} (omega (arith, way-some (suc n) (λ e. absurd (omega (arith, e)))))

-- the shorter of two
either : (p q b t : ℕ) → (leb (p + b) t || leb (q + b) t) ≡ leb (min p q + b) t
either p q b t = go (dec_le (p + b) t) (dec_le (q + b) t)
  where
    go : Dec (p + b ≤ t) → Dec (q + b ≤ t) → (leb (p + b) t || leb (q + b) t) ≡ leb (min p q + b) t
    go (yes l) r = rw (le-leb (p + b) t l) (sym (le-leb (min p q + b) t (omega arith)))
    go (no l) (yes r) = rw (lt-leb (p + b) t (omega arith), le-leb (q + b) t r) (sym (le-leb (min p q + b) t (omega arith)))
    go (no l) (no r) = rw (lt-leb (p + b) t (omega arith), lt-leb (q + b) t (omega arith)) (sym (lt-leb (min p q + b) t (omega arith)))

-- by one end of the second edge
pub arrives : (t : ℕ) → t < 4294967296 → (w : EdgePair) (s' : Side) (x y : ℕ) → (reached_by t w at_first s' x y || reached_by t w at_second s' x y) ≡ leb (to_end_of w s' x + gap w.length2 s' y) t
unfolding reached_by distance_between to_end_of gap
arrives t h w s' x y =
    ap₂ ◌||◌ (by_way t x (code_between_of w at_first s') (gap w.length2 s' y) h) (by_way t (w.length1 - x) (code_between_of w at_second s') (gap w.length2 s' y) h)
    ∙ either (x + way (code_between_of w at_first s')) ((w.length1 - x) + way (code_between_of w at_second s')) (gap w.length2 s' y) t

-- by both, and along the edge
pub reached-by-ends : (t : ℕ) → t < 4294967296 → (w : EdgePair) (x y : ℕ) → is_reached t w x y ≡ (leb (to_end_of w at_first x + y) t || leb (to_end_of w at_second x + (w.length2 - y)) t) || (w.same && leb (difference x y) t)
unfolding is_reached gap
reached-by-ends t h w x y =
    sym (by-arrival (reached_by t w at_first at_first x y) (reached_by t w at_first at_second x y) (reached_by t w at_second at_first x y) (reached_by t w at_second at_second x y) (w.same && leb (difference x y) t))
    ∙ ap₂ (λ a b. (a || b) || (w.same && leb (difference x y) t)) (arrives t h w at_first x y) (arrives t h w at_second x y)

-- below the shortest route nothing is reached
module _ (t : ℕ) (small : t < 4294967296) (w : EdgePair) where
  nothing : (same : Bool) → w.same ≡ same → t < shortest_route_of w → (x y : ℕ) → is_reached t w x y ≡ false
  unfolding shortest_route_of to_end_of code_between_of
  nothing true one h x y = let none : t < 0 = rw one at h in absurd (omega arith)
  nothing false two h x y =
      let low = rw two at h in
      reached-by-ends t small w x y
      ∙ rw (two, lt-leb (to_end_of w at_first x + y) t (omega arith), lt-leb (to_end_of w at_second x + (w.length2 - y)) t (omega arith)) refl

  pub none_below : t < shortest_route_of w → (xs ys : List ℕ) → reached_pairs t w xs ys ≡ 0
  unfolding reached_pairs
  none_below h xs ys = sum-below-zero (length xs) _ (λ k l. none_pass _ ys (λ i m. nothing w.same refl h _ _))

-- of two sums that come to no more than twice the threshold and one, one is within it
one-within : (t u v a b : ℕ) → u ≤ a → v ≤ b → a + b ≤ 2 * t + 1 → (near : Bool) → ((leb u t || leb v t) || near) ≡ true
one-within t u v a b h l sum near = go (dec_le u t)
  where
    go : Dec (u ≤ t) → ((leb u t || leb v t) || near) ≡ true
    go (yes p) = rw (le-leb u t p) refl
    go (no p) = rw (lt-leb u t (omega arith), le-leb v t (omega arith)) refl

-- from the greatest distance on everything is
module _ (t : ℕ) (small : t < 4294967296) (w : EdgePair) (whole : greatest_distance_of w ≤ t) where
  halves : Dec (way w.ff + way w.ss ≤ way w.fs + way w.sf) → (x y : ℕ) → x ≤ w.length1 → y ≤ w.length2 → is_reached t w x y ≡ true
  unfolding greatest_distance_of to_end_of code_between_of
  halves (yes p) x y h l =
      reached-by-ends t small w x y
      ∙ one-within t (to_end_of w at_first x + y) (to_end_of w at_second x + (w.length2 - y)) (x + way w.ff + y) ((w.length1 - x) + way w.ss + (w.length2 - y)) (omega arith) (omega arith) (omega (arith, whole)) _
  halves (no p) x y h l =
      reached-by-ends t small w x y
      ∙ one-within t (to_end_of w at_first x + y) (to_end_of w at_second x + (w.length2 - y)) ((w.length1 - x) + way w.sf + y) (x + way w.fs + (w.length2 - y)) (omega arith) (omega arith) (omega (arith, whole)) _

  pub all-within : (xs ys : List ℕ) → OnEdge w.length1 xs → OnEdge w.length2 ys → reached_pairs t w xs ys ≡ length xs * length ys
  unfolding reached_pairs sum_below
  all-within xs ys one other =
      sum-below-cong (length xs) _ (λ i. length ys) (λ i h. all_pass _ ys (λ j l. halves (dec_le (way w.ff + way w.ss) (way w.fs + way w.sf)) (get_or xs i 0) (get_or ys j 0) (one.on i h) (other.on j l)))
      ∙ each (length xs) (length ys)
    where
      each : (n m : ℕ) → sum_below n (λ i. m) ≡ n * m
      each zero m = omega arith
      each (suc n) m = omega (arith, each n m, suc-mul n m)
