-- What one sweep leaves is the list of a route or of a window.
use mathlib.Core.Bool.{Bool, true, false, not, false≢true}
use mathlib.Core.List.{List, [], ◌∷◌, ◌++◌, map, map-map}
use mathlib.Core.Path.{◌≡◌, ◌∙◌, refl, sym, ap, ap₂}
use Prim.Native.Nat.{ℕ, zero, suc, ◌+◌, ◌-◌, ◌≤◌, ◌<◌}
use native.Mathlib.Omega.{arith}
use lib.Dec.{eqb, eqb-suc-zero}
use lib.ListN.{length, get_or, take, drop, replicate, length-map, length-replicate}
use lib.Seq.{drop-drop}
use Rattle.model.specs.Distance.{Distance, metres, none, decode}
use Rattle.sweep.proofs.Laws.Kinds.{map-agree, route-standing}
use Rattle.sweep.specs.Answers.{marked, marked_if}
use Rattle.sweep.specs.Cursors.{position, positions, rest, moves}
use Rattle.edge_pair.specs.Edges.{side_of, code_between_of, distance_between}
use Rattle.sweep.specs.Six.{route_marks, route_sum, placed, PartSwept, RouteSwept}
use Rattle.edge_pair.specs.Offsets.{Laid}
use Rattle.sweep.specs.Moving.{route_cursor}
use Rattle.sweep.specs.Sweeping.{standing, resting, Swept}
use Rattle.sweep.specs.declared.cursor.Cursor.{Cursor}
use Rattle.edge_pair.specs.declared.edges.EdgePair.{EdgePair}

-- a part that was lent and comes back
put_back : (from : ℕ) (l out : List ℕ) (n : ℕ) → length out ≡ n → take from l ++ (out ++ drop ((from + n) - from) (drop from l)) ≡ placed from out l
unfolding placed
put_back from l out n e =
    ap (λ (m : List ℕ). take from l ++ (out ++ m)) (drop-drop ((from + n) - from) from l ∙ ap (λ (k : ℕ). drop k l) {x = from + ((from + n) - from)} {y = from + length out} (omega arith))

-- a list of zeros
zeros : (f : ℕ → ℕ) (xs : List ℕ) → ((n : ℕ) → f n ≡ 0) → map f xs ≡ replicate (length xs) 0
zeros f [] h = refl
zeros f (x ∷ xs) h = ap₂ ◌∷◌ (h x) (zeros f xs h)

-- what one sweep of a cursor leaves, where there is one and where there is none
pub part_none : (exists : Bool) (c : Cursor) (q : ℕ) (xs ys : List ℕ) (from : ℕ) (l out l' : List ℕ) → exists ≡ false → from + length xs ≤ length l → out ≡ replicate (length xs) 0 → l' ≡ take from l ++ (out ++ drop ((from + length xs) - from) (drop from l)) → PartSwept exists c q xs ys from l 0 l'
unfolding marked_if
part_none true c q xs ys from l out l' e room gone put = absurd (false≢true (sym e))
part_none false c q xs ys from l out l' e room gone put =
    record {
      positions_are = put ∙ put_back from l out (length xs) (ap length gone ∙ length-replicate (length xs) 0) ∙ ap (λ (m : List ℕ). placed from m l) (gone ∙ sym (zeros (λ x. 0) xs (λ n. refl)));
      moves_are = refl;
    }

pub part-swept : (exists : Bool) (c : Cursor) (q : ℕ) (xs ys : List ℕ) (from : ℕ) (l : List ℕ) (r : ℕ) (out l' : List ℕ) → exists ≡ true → Swept c q xs ys r out → l' ≡ take from l ++ (out ++ drop ((from + length xs) - from) (drop from l)) → PartSwept exists c q xs ys from l r l'
unfolding marked_if
part-swept false c q xs ys from l r out l' e done put = absurd (false≢true e)
part-swept true c q xs ys from l r out l' e done put =
    record {
      positions_are = put ∙ put_back from l out (length xs) (ap length done.positions_are ∙ length-map xs _) ∙ ap (λ (m : List ℕ). placed from m l) done.positions_are;
      moves_are = done.moves_are;
    }

-- a route's cursor, by its code
pub route-part : (t : ℕ) (w : EdgePair) (first1 first2 : Bool) (xs ys : List ℕ) (from code : ℕ) (c : Cursor) (l : List ℕ) (r : ℕ) (l' : List ℕ) → code ≡ code_between_of w (side_of first1) (side_of first2) → c ≡ route_cursor t w.length1 first1 code first2 → t < 4294967296 → Laid w.length1 xs → PartSwept (not (eqb code 0)) c w.length2 xs ys from l r l' → RouteSwept t w (side_of first1) (side_of first2) xs ys from l r l'
unfolding route_marks route_sum distance_between decode positions marked marked_if resting route_cursor
route-part t w first1 first2 xs ys from zero c l r l' told made low laid done =
    record {
      positions_are = done.positions_are ∙ ap (λ (m : List ℕ). placed from m l) (zeros (λ x. 0) xs (λ n. refl) ∙ ap (λ (n : ℕ). replicate n 0) (sym (length-map xs (at none))) ∙ sym (zeros (marked none) (map (at none) xs) (λ n. refl)) ∙ ap (λ (d : Distance). map (marked d) (map (at d) xs)) (sym beyond));
      moves_are = done.moves_are ∙ sym (ap (λ (d : Distance). marked d (moves (rest (side_of first1) ys) (map (at d) xs))) beyond);
    }
  where
    at : Distance → ℕ → ℕ
    at d = position t w.length1 (side_of first1) d w.length2 (side_of first2) ys

    beyond : decode (code_between_of w (side_of first1) (side_of first2)) ≡ none
    beyond = rw (sym told) refl
route-part t w first1 first2 xs ys from (suc n) c l r l' told made low laid done =
    record {
      positions_are = some.positions_are ∙ ap (λ (m : List ℕ). placed from m l) (map-agree _ _ xs (λ k h. ap suc (stands k h)) ∙ sym (map-map suc (at (metres n)) xs) ∙ ap (λ (d : Distance). map (marked d) (map (at d) xs)) (sym found));
      moves_are = some.moves_are ∙ ap (λ (m : List ℕ). suc (moves (rest (side_of first1) ys) m)) (map-agree _ _ xs stands) ∙ ap (λ (d : Distance). marked d (moves (rest (side_of first1) ys) (map (at d) xs))) (sym found);
    }
  where
    at : Distance → ℕ → ℕ
    at d = position t w.length1 (side_of first1) d w.length2 (side_of first2) ys

    some : PartSwept true (route_cursor t w.length1 first1 (suc n) first2) w.length2 xs ys from l r l'
    some = rw (← made, ← ap not (eqb-suc-zero n)) done

    found : decode (code_between_of w (side_of first1) (side_of first2)) ≡ metres n
    found = rw (sym told) refl

    stands : (k : ℕ) → k < length xs → standing (route_cursor t w.length1 first1 (suc n) first2) w.length2 ys (get_or xs k 0) ≡ at (metres n) (get_or xs k 0)
    stands k h = route-standing t w.length1 w.length2 (suc n) first1 first2 ys (get_or xs k 0) low (laid.on_edge.on k h)
