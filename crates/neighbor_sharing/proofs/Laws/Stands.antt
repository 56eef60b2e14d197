-- Over events laid out the six cursors, moved from event to event, stand where the definitions say, and so join what is reached.
use mathlib.Core.Bool.{Bool, true, false, cond}
use mathlib.Core.List.{List, [], ◌∷◌}
use mathlib.Core.Path.{◌≡◌, ◌∙◌, refl, sym}
use Prim.Native.Nat.{ℕ, suc, ◌≤◌, ◌<◌}
use native.Mathlib.Omega.{arith}
use lib.ListN.{length, get_or}
use Rattle.model.proofs.Laws.Counting.{sum_over, sum-below-list}
use Rattle.model.specs.Counting.{count_if}
use Rattle.edge_pair.specs.Edges.{side_of}
use Rattle.edge_pair.specs.Offsets.{Ordered, OnEdge, EdgesLaid}
use Rattle.edge_pair.specs.Within.{is_reached, reached_pairs}
use Rattle.edge_pair.specs.declared.edges.EdgePair.{EdgePair}
use Rattle.sweep.proofs.Laws.Moving.{at_most, moved-on-stands}
use Rattle.sweep.proofs.Laws.OneWay.{rest_in, ordered-rest}
use Rattle.sweep.proofs.Laws.Step.{standing_on, resting-on}
use Rattle.sweep.specs.Cursors.{rest}
use Rattle.sweep.specs.Moving.{moved_on, route_cursor, below_cursor, up_to_cursor}
use Rattle.sweep.specs.Sweeping.{resting, Movable}
use Rattle.sweep.specs.declared.cursor.Cursor.{Cursor}
use Rattle.neighbor_sharing.proofs.Laws.Joined.{reached-joined}
use Rattle.neighbor_sharing.specs.Joined.{joined_from, shared_from, shared}
use Rattle.neighbor_sharing.specs.Stands.{route_of, route_moved, stands_moved, stands_at_rest}
use Rattle.neighbor_sharing.specs.declared.moving.Stands.{Stands}

-- a cursor that may be moved on to every offset from x on
record Onward (c : Cursor) (q : ℕ) (ys : List ℕ) (x from : ℕ) : Type 0 where
  can : (y : ℕ) → x ≤ y → Movable c q ys y from

module _ {c : Cursor} {q : ℕ} {ys : List ℕ} where
  -- from rest, and from where it was moved to
  onward-rest : (x : ℕ) → Ordered ys → Onward c q ys x (resting c ys)
  unfolding resting
  onward-rest x o = record { can = λ y h. record { ordered = o; position_in = rest_in (side_of c.falling) ys; onward = resting-on c q ys y } }

  onward-moved : {x from : ℕ} → Onward c q ys x from → (y : ℕ) → x ≤ y → Onward c q ys y (moved_on c q ys y from)
  onward-moved a y h =
      rw (moved-on-stands c q ys y (a.can y h))
      (record { can = λ z l. record { ordered = (a.can y h).ordered; position_in = at_most c q ys y; onward = standing_on c q ys y z l } })

  -- a cursor of the window, which on two edges stays at rest
  onward-if : (same : Bool) {x from : ℕ} → Onward c q ys x from → resting c ys ≡ 0 → (y : ℕ) → x ≤ y → Onward c q ys y (cond same (moved_on c q ys y from) 0)
  onward-if true a rests y h = onward-moved a y h
  onward-if false a rests y h = rw (← rests) (onward-rest y (a.can y h).ordered)

module _ (t : ℕ) (w : EdgePair) (ys : List ℕ) where
  -- all six
  record AllOnward (x : ℕ) (m : Stands) : Type 0 where
    ff : Onward (route_of t w true true) w.length2 ys x m.ff
    fs : Onward (route_of t w true false) w.length2 ys x m.fs
    sf : Onward (route_of t w false true) w.length2 ys x m.sf
    ss : Onward (route_of t w false false) w.length2 ys x m.ss
    low : Onward (below_cursor t) w.length2 ys x m.low
    high : Onward (up_to_cursor t) w.length2 ys x m.high

  all_rest : Ordered ys → AllOnward 0 (stands_at_rest ys)
  unfolding stands_at_rest resting route_cursor below_cursor up_to_cursor side_of rest
  all_rest o =
      record {
        ff = onward-rest {c = route_of t w true true} 0 o;
        fs = onward-rest {c = route_of t w true false} 0 o;
        sf = onward-rest {c = route_of t w false true} 0 o;
        ss = onward-rest {c = route_of t w false false} 0 o;
        low = onward-rest {c = below_cursor t} 0 o;
        high = onward-rest {c = up_to_cursor t} 0 o;
      }

  all_moved : {x : ℕ} {m : Stands} → AllOnward x m → (y : ℕ) → x ≤ y → AllOnward y (stands_moved t w ys y m)
  unfolding stands_moved route_moved resting below_cursor up_to_cursor side_of rest
  all_moved a y h =
      record {
        ff = onward-moved a.ff y h;
        fs = onward-moved a.fs y h;
        sf = onward-moved a.sf y h;
        ss = onward-moved a.ss y h;
        low = onward-if w.same a.low refl y h;
        high = onward-if w.same a.high refl y h;
      }

  module _ (small : t < 4294967296) where
    -- the six join what is reached
    joins : {x : ℕ} {m : Stands} → AllOnward x m → Ordered ys → (y : ℕ) → x ≤ y → y ≤ w.length1 → joined_from (length ys) (stands_moved t w ys y m) ≡ count_if (is_reached t w y) ys
    unfolding joined_from stands_moved route_moved
    joins a o y h l =
        rw (moved-on-stands _ _ _ _ (a.ff.can y h), moved-on-stands _ _ _ _ (a.fs.can y h), moved-on-stands _ _ _ _ (a.sf.can y h), moved-on-stands _ _ _ _ (a.ss.can y h), moved-on-stands _ _ _ _ (a.low.can y h), moved-on-stands _ _ _ _ (a.high.can y h))
        (sym (reached-joined t small w ys o y l))

    -- from all events of the first edge
    shares : (xs : List ℕ) {x : ℕ} {m : Stands} → AllOnward x m → ((k : ℕ) → k < length xs → x ≤ get_or xs k 0) → Ordered xs → OnEdge w.length1 xs → Ordered ys → shared_from t w ys m xs ≡ sum_over (λ y. count_if (is_reached t w y) ys) xs
    unfolding shared_from sum_over
    shares [] a least rising on o = refl
    shares (y ∷ xs) a least rising on o =
        let here = joins a o y (least 0 (omega arith)) (on.on 0 (omega arith)) in
        let rest = shares xs (all_moved a y (least 0 (omega arith))) (λ k h. rising.in_order 0 (suc k) (omega arith) (omega arith)) (ordered-rest rising) (record { on = λ k h. on.on (suc k) (omega arith) }) o in
        omega (arith, here, rest)

    pub shared-reached : (xs : List ℕ) → EdgesLaid w xs ys → shared t w xs ys ≡ reached_pairs t w xs ys
    unfolding shared reached_pairs
    shared-reached xs laid =
        let o = laid.second_laid.ordered in
        shares xs (all_rest o) (λ k h. omega arith) laid.first_laid.ordered laid.first_laid.on_edge o
        ∙ sym (sum-below-list 0 (λ y. count_if (is_reached t w y) ys) xs)
