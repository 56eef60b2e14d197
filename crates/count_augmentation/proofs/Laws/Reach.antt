-- What is looked up for an event: first places, last places and a window, each told by a stored number.
use mathlib.Core.Bool.{Bool, true, false, not, ◌&&◌, ◌||◌}
use mathlib.Core.List.{List}
use mathlib.Core.Path.{◌≡◌, refl, sym, ap, ap₂, ◌∙◌}
use Prim.Native.Nat.{ℕ, suc, ◌+◌, ◌-◌, ◌≤◌, ◌<◌, min, max}
use native.Mathlib.Decide.{ℕ_discrete, dec_lt, dec_le}
use native.Mathlib.Nat.{le_trans}
use native.Mathlib.Omega.{arith}
use borrow.Author.Tests.{le-leb, lt-leb, lt-ltb, le-ltb, leb-true, leb-false, ltb-true, not-true, eq-eqb, ne_eqb}
use lib.Dec.{leb, ltb}
use lib.ListN.{length, get_or}
use Rattle.model.proofs.Laws.Arrival.{in_window, no_place}
use Rattle.model.proofs.Laws.Counting.{count-cong, count-mono, count-at-most, sum-below-cong}
use Rattle.model.proofs.Laws.Cover.{none_pass, all_pass, cover-list, first-places, last-places}
use Rattle.model.specs.Counting.{count_if, covered}
use Rattle.model.specs.Distance.{difference}
use Rattle.model.specs.Location.{at_first, at_second}
use Rattle.edge_pair.proofs.Laws.Arrival.{reached-by-ends}
use Rattle.edge_pair.specs.Offsets.{Ordered, Laid}
use Rattle.edge_pair.specs.Ways.{to_end_of}
use Rattle.edge_pair.specs.Within.{is_reached, reached_pairs}
use Rattle.edge_pair.specs.declared.edges.EdgePair.{EdgePair}
use Rattle.count_augmentation.specs.LookUp.{stored_before, stored_last, read_below_of, read_from, read_first, read_second, looked_by_ends, looked_around, reach_from, looked_part, looked_up_by, looked_up_pairs}
use Rattle.count_augmentation.specs.Storing.{NumbersStored}
use Rattle.count_augmentation.specs.Thresholds.{some_from_of}
use Rattle.count_augmentation.proofs.Laws.Halving.{place-parted}
use Rattle.count_augmentation.proofs.Laws.Places.{count-not, read_below, read-from}

-- what is read for an end, by whether it is within reach
pub first-none : (xs near : List ℕ) (reach : ℕ) → reach ≡ 0 → 0 ≡ read_first xs near reach
unfolding read_first
first-none xs near reach e = sym (simp (eq-eqb reach 0 e))

pub first_some : (xs near : List ℕ) (reach limit : ℕ) → limit ≡ reach → (limit ≡ 0 → ⊥) → read_below_of xs near limit ≡ read_first xs near reach
unfolding read_first
first_some xs near reach limit e some = rw (← e, ne_eqb limit 0 some) refl

pub second_none : (q : ℕ) (xs near : List ℕ) (reach : ℕ) → reach ≡ 0 → 0 ≡ read_second q xs near reach
unfolding read_second
second_none q xs near reach e = sym (simp (eq-eqb reach 0 e))

pub second-some : (q : ℕ) (xs near : List ℕ) (reach found limit : ℕ) → found ≡ reach → (found ≡ 0 → ⊥) → limit ≡ suc q - found → read_from xs near limit ≡ read_second q xs near reach
unfolding read_second
second-some q xs near reach found limit e some l = rw (← e, ne_eqb found 0 some, ← l) refl

-- the first places, the last, and those from the last w of n on up to before another place: told by equal numbers
pub around-as : (n : ℕ) {r p p' l l' below w w' u u' : ℕ} → r ≡ covered n p l below u → below ≡ n - w → p ≡ p' → l ≡ l' → w ≡ w' → u ≡ u' → r ≡ covered n p' l' (n - w') u'
around-as n is begins first last window upto = rw (is, begins, first, last, window, upto) refl

-- they are no more than the three numbers together
pub around-few : (n p l w u : ℕ) {r below : ℕ} → r ≡ covered n p l below u → below ≡ n - w → r ≤ p + l + w
around-few n p l w u is begins = rw (is, begins) (le_trans (less-of (n - (min (n - w) (n - l) - p)) _) (without n p l w))
  where
    less-of : (a b : ℕ) → a - b ≤ a
    less-of a b = omega arith

    without : (n p l w : ℕ) → n - (min (n - w) (n - l) - p) ≤ p + l + w
    without n p l w = omega arith

-- what is looked up, by its cases
module _ (w : EdgePair) (t x : ℕ) (ys near_first near-second : List ℕ) where
  pub whole-up : w.length2 < (suc t - to_end_of w at_first x) + (suc t - to_end_of w at_second x) → looked_up_by w t x ys near_first near-second ≡ stored_last near_first
  unfolding looked_up_by reach_from
  whole-up h = simp (lt-ltb w.length2 ((suc t - to_end_of w at_first x) + (suc t - to_end_of w at_second x)) h)

  pub part_up : (suc t - to_end_of w at_first x) + (suc t - to_end_of w at_second x) ≤ w.length2 → looked_up_by w t x ys near_first near-second ≡ looked_part w t x ys near_first near-second
  unfolding looked_up_by reach_from
  part_up h = simp (le-ltb w.length2 ((suc t - to_end_of w at_first x) + (suc t - to_end_of w at_second x)) h)

  pub own-part : w.same ≡ true → looked_around w.length2 (suc t - to_end_of w at_first x) (suc t - to_end_of w at_second x) t x ys near_first near-second ≡ looked_part w t x ys near_first near-second
  unfolding looked_part reach_from
  own-part e = sym (simp e)

  pub other-part : w.same ≡ false → looked_by_ends w.length2 (suc t - to_end_of w at_first x) (suc t - to_end_of w at_second x) ys near_first near-second ≡ looked_part w t x ys near_first near-second
  unfolding looked_part reach_from
  other-part e = sym (simp e)

  -- with both ends beyond the threshold nothing is, on another edge
  pub nothing-up : t < some_from_of w.same (to_end_of w at_first x) (to_end_of w at_second x) → looked_up_by w t x ys near_first near-second ≡ 0
  nothing-up h = go w.same refl h
    where
      go : (own : Bool) → w.same ≡ own → t < some_from_of own (to_end_of w at_first x) (to_end_of w at_second x) → looked_up_by w t x ys near_first near-second ≡ 0
      go true e l = absurd (unfold some_from_of in omega (arith, l))
      go false e l =
          let beyond : t < min (to_end_of w at_first x) (to_end_of w at_second x) = unfold some_from_of in l in
          part_up (omega arith) ∙ sym (other-part e)
          ∙ unfold looked_by_ends in omega (arith, first-none ys near_first (suc t - to_end_of w at_first x) (omega arith), second_none w.length2 ys near-second (suc t - to_end_of w at_second x) (omega arith))

-- how many offsets are below a limit, and how many are not
abbrev below-limit : List ℕ → ℕ → ℕ
below-limit ys limit = count_if (λ y. ltb y limit) ys

abbrev from-limit : List ℕ → ℕ → ℕ
from-limit ys limit = count_if (λ y. leb limit y) ys

-- what is below a limit stands at the first places, what is not at the last
module _ (ys : List ℕ) (rising : Ordered ys) (limit : ℕ) where
  below-first : (k : ℕ) → k < length ys → ltb (get_or ys k 0) limit ≡ ltb k (below-limit ys limit)
  below-first =
      first-places (λ y. ltb y limit) ys
      (λ k j l m e. lt-ltb (get_or ys k 0) limit (omega (arith, ltb-true (get_or ys j 0) limit e, rising.in_order k j l m)))

  from_last : (k : ℕ) → k < length ys → leb limit (get_or ys k 0) ≡ leb (length ys - from-limit ys limit) k
  from_last =
      last-places (λ y. leb limit y) ys
      (λ k j l m e. le-leb limit (get_or ys j 0) (omega (arith, leb-true limit (get_or ys k 0) e, rising.in_order k j l m)))

-- within reach of the second end, read as a limit on the offset
second-limit : (q s y : ℕ) → y ≤ q → ltb (q - y) s ≡ leb (suc q - s) y
second-limit q s y h = go (dec_lt (q - y) s)
  where
    go : Dec (q - y < s) → ltb (q - y) s ≡ leb (suc q - s) y
    go (yes l) = lt-ltb (q - y) s l ∙ sym (le-leb (suc q - s) y (omega arith))
    go (no l) = le-ltb (q - y) s (omega arith) ∙ sym (lt-leb (suc q - s) y (omega arith))

no_gap : (m k : ℕ) → min m k - m ≡ 0
no_gap m k = omega arith

max_self : (m : ℕ) → max m m ≡ m
max_self m = omega arith

-- the first m and the last n of l places, as a sum
summed : (l m n : ℕ) → m ≤ l → n ≤ l → min (m + n) l ≡ covered l m n m m
summed l m n h k =
    rw (no_gap m (l - n), max_self m) (omega arith)

-- the offset y of an edge of length q is reached from an end, by reaches f and s, or lies in the window around x on its own edge
abbrev in_reach : ℕ → ℕ → ℕ → Bool → ℕ → ℕ → ℕ → Bool
in_reach q f s own t x y = (ltb y f || ltb (q - y) s) || (own && leb (difference x y) t)

-- a gap is within a reach exactly when the way and the gap are within the threshold
way-reach : (t u y : ℕ) → leb (u + y) t ≡ ltb y (suc t - u)
way-reach t u y = go (dec_le (u + y) t)
  where
    go : Dec (u + y ≤ t) → leb (u + y) t ≡ ltb y (suc t - u)
    go (yes h) = le-leb (u + y) t h ∙ sym (lt-ltb y (suc t - u) (omega arith))
    go (no h) = lt-leb (u + y) t (omega arith) ∙ sym (le-ltb y (suc t - u) (omega arith))

-- the routes between two edges say the same
reached-in : (t : ℕ) → t < 4294967296 → (w : EdgePair) (x y : ℕ) → in_reach w.length2 (suc t - to_end_of w at_first x) (suc t - to_end_of w at_second x) w.same t x y ≡ is_reached t w x y
reached-in t small w x y =
    sym (reached-by-ends t small w x y
    ∙ ap₂ (λ (a b : Bool). (a || b) || (w.same && leb (difference x y) t)) (way-reach t (to_end_of w at_first x) y) (way-reach t (to_end_of w at_second x) (w.length2 - y)))

-- the whole edge is within reach of its two ends together: each place of one or of the other
second_holds : (a w : Bool) → ((a || true) || w) ≡ true
second_holds true w = refl
second_holds false w = refl

place-reached : (q f s : ℕ) (own : Bool) (t x y : ℕ) → y ≤ q → q < f + s → in_reach q f s own t x y ≡ true
place-reached q f s own t x y on h = go (dec_lt y f)
  where
    go : Dec (y < f) → ((ltb y f || ltb (q - y) s) || (own && leb (difference x y) t)) ≡ true
    go (yes l) = rw (lt-ltb y f l) refl
    go (no l) = rw (lt-ltb (q - y) s (omega arith)) (second_holds (ltb y f) _)

-- the run on an edge of length q, with right numbers beside it
module _ {q : ℕ} {ys near_first near-second : List ℕ} (laid : Laid q ys) (first-long : length near_first ≡ length ys) (second-long : length near-second ≡ length ys) (stored : NumbersStored q ys near_first near-second) where
  -- what is read is how many offsets are below a limit, and how many are not
  below-read : (limit : ℕ) → read_below_of ys near_first limit ≡ below-limit ys limit
  below-read limit = read_below q ys near_first near-second laid.on_edge stored laid.ordered limit _ (place-parted ys limit laid.ordered)

  from-read : (limit : ℕ) → read_from ys near-second limit ≡ from-limit ys limit
  from-read limit = read-from q ys near_first near-second laid.on_edge stored laid.ordered limit _ (place-parted ys limit laid.ordered) second-long

  -- the whole run's number is its size
  all_read : stored_last near_first ≡ length ys
  all_read =
      ap (stored_before near_first) first-long
      ∙ read_below q ys near_first near-second laid.on_edge stored laid.ordered (suc q) (length ys)
      (record { not_below = record { within = omega arith; after = λ k h m. absurd (omega arith) }; before = λ k h. omega (arith, laid.on_edge.on k h) })
      ∙ all_pass _ ys (λ k h. lt-ltb (get_or ys k 0) (suc q) (omega (arith, laid.on_edge.on k h)))

  -- from an end that is beyond the threshold none is reached
  first_read : (f : ℕ) → read_first ys near_first f ≡ below-limit ys f
  first_read f = go (ℕ_discrete f 0)
    where
      go : Dec (f ≡ 0) → read_first ys near_first f ≡ below-limit ys f
      go (yes e) = sym (first-none ys near_first f e) ∙ sym (none_pass _ ys (λ k h. le-ltb (get_or ys k 0) f (omega arith)))
      go (no e) = sym (first_some ys near_first f f refl e) ∙ below-read f

  second-read : (s : ℕ) → read_second q ys near-second s ≡ from-limit ys (suc q - s)
  second-read s = go (ℕ_discrete s 0)
    where
      go : Dec (s ≡ 0) → read_second q ys near-second s ≡ from-limit ys (suc q - s)
      go (yes e) = sym (second_none q ys near-second s e) ∙ sym (none_pass _ ys (λ k h. lt-leb (suc q - s) (get_or ys k 0) (omega (arith, laid.on_edge.on k h))))
      go (no e) = sym (second-some q ys near-second s s _ refl e refl) ∙ from-read (suc q - s)

  module _ (f s t x : ℕ) where
    -- the first and the last places
    second-last : (k : ℕ) → k < length ys → ltb (q - get_or ys k 0) s ≡ leb (length ys - from-limit ys (suc q - s)) k
    second-last k h = second-limit q s (get_or ys k 0) (laid.on_edge.on k h) ∙ from_last ys laid.ordered (suc q - s) k h

    -- from the two ends: the sum of both, at most all
    looked-by-ends : looked_by_ends q f s ys near_first near-second ≡ count_if (in_reach q f s false t x) ys
    unfolding looked_by_ends
    looked-by-ends =
        ap₂ (λ (m n : ℕ). min (m + n) (length ys)) (first_read f) (second-read s)
        ∙ summed (length ys) (below-limit ys f) (from-limit ys (suc q - s)) (count-at-most _ ys) (count-at-most _ ys)
        ∙ sym (cover-list ys (λ y. ltb y f) (λ y. ltb (q - y) s) (λ y. false) (below-limit ys f) (from-limit ys (suc q - s)) (below-limit ys f) (below-limit ys f)
        (omega arith) (below-first ys laid.ordered f) second-last (λ k h. no_place (below-limit ys f) k))

    -- the window does not end before it begins
    window-opens : length ys - from-limit ys (x - t) ≤ below-limit ys (x + t + 1)
    window-opens =
        omega (
          arith,
          count-not (λ y. leb (x - t) y) ys,
          count-mono (λ y. not (leb (x - t) y)) (λ y. ltb y (x + t + 1)) ys (λ y e. lt-ltb y (x + t + 1) (omega (arith, leb-false (x - t) y (not-true _ e)))),
        )

    -- from the two ends and in the window
    looked-around : looked_around q f s t x ys near_first near-second ≡ count_if (in_reach q f s true t x) ys
    unfolding looked_around
    looked-around =
        around-as (length ys) refl refl (first_read f) (second-read s) (from-read (x - t)) (below-read (x + t + 1))
        ∙ sym (cover-list ys (λ y. ltb y f) (λ y. ltb (q - y) s) (λ y. leb (difference x y) t) (below-limit ys f) (from-limit ys (suc q - s)) (length ys - from-limit ys (x - t)) (below-limit ys (x + t + 1))
        window-opens (below-first ys laid.ordered f) second-last
        (λ k h. in_window x (get_or ys k 0) t ∙ ap₂ ◌&&◌ (from_last ys laid.ordered (x - t) k h) (below-first ys laid.ordered (x + t + 1) k h)))

    all-looked : (own : Bool) → q < f + s → stored_last near_first ≡ count_if (in_reach q f s own t x) ys
    all-looked own h = all_read ∙ sym (all_pass _ ys (λ k l. place-reached q f s own t x (get_or ys k 0) (laid.on_edge.on k l) h))

-- with right numbers what is looked up is what is reached
module _ (w : EdgePair) {ys near_first near-second : List ℕ} (laid : Laid w.length2 ys) (first-long : length near_first ≡ length ys) (second-long : length near-second ≡ length ys) (stored : NumbersStored w.length2 ys near_first near-second) (t : ℕ) where
  abbrev from_first : ℕ → ℕ
  from_first x = suc t - to_end_of w at_first x

  abbrev from_second : ℕ → ℕ
  from_second x = suc t - to_end_of w at_second x

  part-reached : (x : ℕ) (own : Bool) → w.same ≡ own → looked_part w t x ys near_first near-second ≡ count_if (in_reach w.length2 (from_first x) (from_second x) own t x) ys
  part-reached x true e = sym (own-part w t x ys near_first near-second e) ∙ looked-around laid first-long second-long stored (from_first x) (from_second x) t x
  part-reached x false e = sym (other-part w t x ys near_first near-second e) ∙ looked-by-ends laid first-long second-long stored (from_first x) (from_second x) t x

  event-reached : t < 4294967296 → (x : ℕ) → looked_up_by w t x ys near_first near-second ≡ count_if (is_reached t w x) ys
  event-reached small x =
      go (dec_lt w.length2 (from_first x + from_second x)) ∙ count-cong _ _ ys (reached-in t small w x)
    where
      go : Dec (w.length2 < from_first x + from_second x) → looked_up_by w t x ys near_first near-second ≡ count_if (in_reach w.length2 (from_first x) (from_second x) w.same t x) ys
      go (yes h) = whole-up w t x ys near_first near-second h ∙ all-looked laid first-long second-long stored (from_first x) (from_second x) t x w.same h
      go (no h) = part_up w t x ys near_first near-second (omega arith) ∙ part-reached x w.same refl

  pub pairs-reached : t < 4294967296 → (xs : List ℕ) → looked_up_pairs w t xs ys near_first near-second ≡ reached_pairs t w xs ys
  unfolding looked_up_pairs reached_pairs
  pairs-reached small xs = sum-below-cong (length xs) _ _ (λ i h. event-reached small (get_or xs i 0))
