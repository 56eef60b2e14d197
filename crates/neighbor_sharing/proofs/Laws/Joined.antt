-- The six cursors, where they stand at an offset of the first edge, join what some route or the window reaches on the second.
use mathlib.Core.Bool.{Bool, true, false, not, cond, ◌&&◌, ◌||◌}
use mathlib.Core.List.{List}
use mathlib.Core.Path.{◌≡◌, ◌∙◌, sym, ap, ap₂}
use Prim.Native.Nat.{ℕ, ◌+◌, ◌-◌, ◌≤◌, ◌<◌, max}
use native.Mathlib.Omega.{arith}
use lib.Dec.{leb, ltb}
use lib.ListN.{length, get_or}
use Rattle.model.proofs.Laws.Arrival.{below-max, from-max, by-arrival, in_window, no_place, not_below}
use Rattle.model.proofs.Laws.Counting.{count-cong}
use Rattle.model.proofs.Laws.Cover.{cover-list}
use Rattle.model.specs.Counting.{count_if, covered}
use Rattle.model.specs.Distance.{difference}
use Rattle.model.specs.Location.{Side, at_first, at_second, gap}
use Rattle.edge_pair.specs.Edges.{side_of, distance_between}
use Rattle.edge_pair.specs.Offsets.{Ordered}
use Rattle.edge_pair.specs.Within.{reached_by, is_reached}
use Rattle.edge_pair.specs.declared.edges.EdgePair.{EdgePair}
use Rattle.sweep.proofs.Laws.Kinds.{route-reaches}
use Rattle.sweep.proofs.Laws.Nearest.{first-within, last_within}
use Rattle.sweep.proofs.Laws.Step.{reached-more}
use Rattle.sweep.specs.Moving.{reach, route_cursor, below_cursor, up_to_cursor}
use Rattle.sweep.specs.Sweeping.{standing}
use Rattle.neighbor_sharing.specs.Stands.{route_of}

module _ (t : ℕ) (small : t < 4294967296) (w : EdgePair) (ys : List ℕ) (o : Ordered ys) (x : ℕ) (on : x ≤ w.length1) where
  abbrev at : Bool → Bool → ℕ
  at first1 first2 = standing (route_of t w first1 first2) w.length2 ys x

  abbrev low : ℕ
  low = standing (below_cursor t) w.length2 ys x

  abbrev high : ℕ
  high = standing (up_to_cursor t) w.length2 ys x

  -- one route reaches the first or the last places, by the end at which it arrives
  by-reach : (first1 first2 : Bool) (y : ℕ) → reached_by t w (side_of first1) (side_of first2) x y ≡ ltb (gap w.length2 (side_of first2) y) (reach (route_of t w first1 first2) x)
  unfolding reached_by distance_between
  by-reach first1 first2 y = sym (route-reaches t w.length1 _ x first1 first2 _ small on)

  first_by : (first1 : Bool) (k : ℕ) → k < length ys → reached_by t w (side_of first1) at_first x (get_or ys k 0) ≡ ltb k (at first1 true)
  unfolding standing route_cursor side_of gap
  first_by first1 k h = by-reach first1 true (get_or ys k 0) ∙ first-within w.length2 _ ys o k h

  last-by : (first1 : Bool) (k : ℕ) → k < length ys → reached_by t w (side_of first1) at_second x (get_or ys k 0) ≡ leb (length ys - at first1 false) k
  unfolding standing route_cursor side_of gap
  last-by first1 k h = by-reach first1 false (get_or ys k 0) ∙ last_within w.length2 _ ys o k h

  -- the two routes that arrive at one end
  abbrev arrives : Side → ℕ → Bool
  arrives s' y = reached_by t w at_first s' x y || reached_by t w at_second s' x y

  first-arrives : (k : ℕ) → k < length ys → arrives at_first (get_or ys k 0) ≡ ltb k (max (at true true) (at false true))
  unfolding side_of
  first-arrives k h = ap₂ ◌||◌ (first_by true k h) (first_by false k h) ∙ sym (below-max k (at true true) (at false true))

  last-arrives : (k : ℕ) → k < length ys → arrives at_second (get_or ys k 0) ≡ leb (length ys - max (at true false) (at false false)) k
  unfolding side_of
  last-arrives k h = ap₂ ◌||◌ (last-by true k h) (last-by false k h) ∙ sym (from-max (length ys) k (at true false) (at false false))

  -- the window's two cursors
  window-from : (k : ℕ) → k < length ys → leb (x - t) (get_or ys k 0) ≡ leb low k
  unfolding standing below_cursor reach side_of
  window-from k h =
      ap (λ (n : ℕ). leb n (get_or ys k 0)) {x = x - t} {y = (x + (0 + 1)) - (t + 1)} (omega arith)
      ∙ not_below _ (get_or ys k 0)
      ∙ ap not (first-within w.length2 _ ys o k h)
      ∙ sym (not_below _ k)

  window-to : (k : ℕ) → k < length ys → ltb (get_or ys k 0) (x + t + 1) ≡ ltb k high
  unfolding standing up_to_cursor reach side_of
  window-to k h =
      ap (ltb (get_or ys k 0)) {x = x + t + 1} {y = (x + (t + 1)) - 0} (omega arith) ∙ first-within w.length2 _ ys o k h

  -- on one edge the window stands between its two cursors, on two there is none
  opens : (same : Bool) → cond same low 0 ≤ cond same high 0
  unfolding standing below_cursor up_to_cursor reach side_of
  opens true = reached-more w.length2 at_first ((x + (0 + 1)) - (t + 1)) ((x + (t + 1)) - 0) ys (omega arith)
  opens false = omega arith

  around : (same : Bool) (k : ℕ) → k < length ys → (same && leb (difference x (get_or ys k 0)) t) ≡ (leb (cond same low 0) k && ltb k (cond same high 0))
  around false k h = no_place 0 k
  around true k h = in_window x (get_or ys k 0) t ∙ ap₂ ◌&&◌ (window-from k h) (window-to k h)

  pub reached-joined : count_if (is_reached t w x) ys ≡ covered (length ys) (max (at true true) (at false true)) (max (at true false) (at false false)) (cond w.same low 0) (cond w.same high 0)
  unfolding is_reached
  reached-joined =
      count-cong _ _ ys (λ y. sym (by-arrival (reached_by t w at_first at_first x y) (reached_by t w at_first at_second x y) (reached_by t w at_second at_first x y) (reached_by t w at_second at_second x y) (w.same && leb (difference x y) t)))
      ∙ cover-list ys (arrives at_first) (arrives at_second) (λ y. w.same && leb (difference x y) t) _ _ _ _ (opens w.same) first-arrives last-arrives (around w.same)
