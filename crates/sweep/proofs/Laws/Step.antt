-- One turn of a sweep: the cursor moves on, its move is added, and its position is written.
use mathlib.Core.Bool.{Bool, true, false}
use mathlib.Core.List.{List, [], ◌∷◌, ◌++◌, map}
use mathlib.Core.Path.{◌≡◌, ◌∙◌, refl, sym, ap, ap₂}
use Prim.Native.Nat.{ℕ, zero, suc, ◌+◌, ◌-◌, ◌≤◌, ◌<◌}
use native.Mathlib.Nat.{not-suc-le-zero}
use native.Mathlib.Numerals.{add-one}
use native.Mathlib.Omega.{arith}
use borrow.Author.Tests.{ltb-true, lt-ltb}
use lib.ListN.{length, get_or, take, set, length-map, length-set}
use lib.Seq.{take-suc, take-suc-set, take_all}
use Rattle.model.specs.Distance.{difference}
use Rattle.model.specs.Location.{Side, gap}
use Rattle.model.proofs.Laws.Counting.{count-mono}
use Rattle.model.proofs.Laws.Lists.{map_at}
use Rattle.sweep.proofs.Laws.Moving.{at_most}
use Rattle.sweep.proofs.Laws.OneWay.{passes-self, add-up, rest_in, from-rest}
use Rattle.sweep.specs.Cursors.{rest, moves}
use Rattle.sweep.specs.Moving.{reach}
use Rattle.edge_pair.specs.Edges.{side_of}
use Rattle.sweep.specs.Sweeping.{reached, standing, resting, Passes, Movable, Sweepable, Swept}
use Rattle.sweep.specs.declared.cursor.Cursor.{Cursor}

-- more is reached with a greater reach
pub reached-more : (q : ℕ) (s : Side) (m n : ℕ) (ys : List ℕ) → m ≤ n → reached q s m ys ≤ reached q s n ys
unfolding reached
reached-more q s m n ys h = count-mono _ _ ys (λ y e. lt-ltb (gap q s y) n (omega (arith, ltb-true (gap q s y) m e)))

-- a cursor moves one way with the offset
on : (falling : Bool) (plus minus q : ℕ) (first : Bool) (ys : List ℕ) (x y : ℕ) → x ≤ y → Passes (side_of falling) (standing (record { falling = falling; plus = plus; minus = minus; first = first }) q ys x) (standing (record { falling = falling; plus = plus; minus = minus; first = first }) q ys y)
unfolding side_of standing reach
on true plus minus q first ys x y h = reached-more q (side_of first) ((plus + 1) - (y + minus)) ((plus + 1) - (x + minus)) ys (omega arith)
on false plus minus q first ys x y h = reached-more q (side_of first) ((x + (plus + 1)) - minus) ((y + (plus + 1)) - minus) ys (omega arith)

pub standing_on : (c : Cursor) (q : ℕ) (ys : List ℕ) (x y : ℕ) → x ≤ y → Passes (side_of c.falling) (standing c q ys x) (standing c q ys y)
standing_on c q ys x y h = on c.falling c.plus c.minus q c.first ys x y h

-- from rest to any position of it
pub resting-on : (c : Cursor) (q : ℕ) (ys : List ℕ) (x : ℕ) → Passes (side_of c.falling) (resting c ys) (standing c q ys x)
unfolding resting
resting-on c q ys x = from-rest (side_of c.falling) (standing c q ys x) ys (at_most c q ys x)

-- one move more
moves_more : (from : ℕ) (ps : List ℕ) (i : ℕ) → i < length ps → moves from (take (suc i) ps) ≡ moves from (take i ps) + difference (get_or (from ∷ ps) i 0) (get_or ps i 0)
unfolding moves
moves_more from [] i h = absurd (not-suc-le-zero h)
moves_more from (p ∷ ps) zero h = omega arith
moves_more from (p ∷ ps) (suc i) h = omega (arith, moves_more p ps i (omega arith))

module _ (c : Cursor) (q : ℕ) (xs ys : List ℕ) where
  abbrev ps : List ℕ
  ps = map (standing c q ys) xs

  -- the loop's invariant: the cursor's last position and its moves so far
  pub record Swept_to (i position m : ℕ) (out : List ℕ) : Type 0 where
    pub i_in : i ≤ length xs
    pub position-is : position ≡ get_or (resting c ys ∷ ps) i 0
    pub one_way : Passes (side_of c.falling) (resting c ys) position
    pub position_in : position ≤ length ys
    pub moves_are : m ≡ moves (resting c ys) (take i ps)
    pub moves-net : m ≡ difference (resting c ys) position
    pub room : length out ≡ length xs
    pub filled : take i out ≡ take i (map (λ x. suc (standing c q ys x)) xs)

  pub begin : (out : List ℕ) → Sweepable xs ys out → Swept_to 0 (resting c ys) 0 out
  unfolding moves difference resting
  begin out w =
      record {
        i_in = omega arith;
        position-is = refl;
        one_way = passes-self (side_of c.falling) (resting c ys);
        position_in = rest_in (side_of c.falling) ys;
        moves_are = refl;
        moves-net = omega arith;
        room = w.room;
        filled = refl;
      }

  -- at the next event the cursor is not yet passed
  pub can-move : (i position m : ℕ) (out out₀ : List ℕ) → Sweepable xs ys out₀ → Swept_to i position m out → i < length xs → Movable c q ys (get_or xs i 0) position
  can-move i position m out out₀ w inv h =
      record {
        ordered = w.second_ordered;
        position_in = inv.position_in;
        onward = rw inv.position-is (go i h);
      }
    where
      go : (i : ℕ) → i < length xs → Passes (side_of c.falling) (get_or (resting c ys ∷ ps) i 0) (standing c q ys (get_or xs i 0))
      go zero h = resting-on c q ys (get_or xs 0 0)
      go (suc i) h = rw (map_at (standing c q ys) xs i (omega arith)) (standing_on c q ys _ _ (w.first_ordered.in_order i (suc i) (omega arith) h))

  -- the moves with the next one: no more than there are events on the second edge
  pub net : (i position m next : ℕ) (out : List ℕ) → Swept_to i position m out → Movable c q ys (get_or xs i 0) position → next ≡ standing c q ys (get_or xs i 0) → m + difference position next ≡ difference (resting c ys) next
  net i position m next out inv can e =
      ap (λ (n : ℕ). n + difference position next) inv.moves-net
      ∙ add-up (side_of c.falling) (resting c ys) position next inv.one_way (rw e can.onward)

  net-few : (from next : ℕ) → from ≤ length ys → next ≤ length ys → difference from next ≤ length ys
  unfolding difference
  net-few from next h k = omega arith

  pub few : (next : ℕ) → next ≤ length ys → difference (resting c ys) next ≤ length ys
  unfolding resting
  few next h = net-few (rest (side_of c.falling) ys) next (rest_in (side_of c.falling) ys) h

  pub next-in : (next x : ℕ) → next ≡ standing c q ys x → next ≤ length ys
  next-in next x e = rw e (at_most c q ys x)

  -- the next event
  pub move-on : (i position m next : ℕ) (out : List ℕ) → Swept_to i position m out → Movable c q ys (get_or xs i 0) position → i < length xs → next ≡ standing c q ys (get_or xs i 0) → Swept_to (suc i) next (m + difference position next) (set out i (suc next))
  move-on i position m next out inv can h e =
      record {
        i_in = h;
        position-is = e ∙ sym (map_at (standing c q ys) xs i h);
        one_way = rw e (resting-on c q ys (get_or xs i 0));
        position_in = next-in next (get_or xs i 0) e;
        moves_are = ap₂ ◌+◌ inv.moves_are (ap₂ difference inv.position-is (e ∙ sym (map_at (standing c q ys) xs i h))) ∙ sym (moves_more (resting c ys) ps i (rw length-map h));
        moves-net = net i position m next out inv can e;
        room = simp length-set inv.room;
        filled =
            take-suc-set out i (suc next) (rw inv.room h)
            ∙ ap₂ (λ (l : List ℕ) (n : ℕ). l ++ (n ∷ [])) inv.filled (ap suc e ∙ sym (map_at (λ x. suc (standing c q ys x)) xs i h))
            ∙ sym (take-suc (map (λ x. suc (standing c q ys x)) xs) i 0 (rw length-map h));
      }

  -- the same in the numbers that the code has
  pub turn : (i position m next d : ℕ) (out : List ℕ) → Swept_to i position m out → Movable c q ys (get_or xs i 0) position → i < length xs → next ≡ standing c q ys (get_or xs i 0) → d ≡ difference position next → Swept_to (i + 1) next (m + d) (set out i (next + 1))
  turn i position m next d out inv can h e f = rw (add-one i, add-one next, f) (move-on i position m next out inv can h e)

  -- none of the numbers is great
  pub moved-few : (i position m next d : ℕ) (out : List ℕ) → Swept_to i position m out → Movable c q ys (get_or xs i 0) position → next ≡ standing c q ys (get_or xs i 0) → d ≡ difference position next → (m + d ≤ length ys) × (next ≤ length ys)
  moved-few i position m next d out inv can e f =
      (rw (f, net i position m next out inv can e) (few next (next-in next _ e)), next-in next _ e)

  pub swept-few : (i position m : ℕ) (out : List ℕ) → Swept_to i position m out → m ≤ length ys
  swept-few i position m out inv = rw inv.moves-net (few position inv.position_in)

  -- past the last event
  pub swept : (i position m : ℕ) (out : List ℕ) → Swept_to i position m out → length xs ≤ i → Swept c q xs ys (m + 1) out
  swept i position m out inv h =
      record {
        positions_are = sym (take_all i out (rw inv.room h)) ∙ inv.filled ∙ take_all i _ (rw length-map h);
        moves_are = add-one m ∙ ap suc (inv.moves_are ∙ ap (moves (resting c ys)) (take_all i ps (rw length-map h)));
      }
