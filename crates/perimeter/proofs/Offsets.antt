-- The offsets of one edge at exactly the radius: only four can be, and testing those counts them all.
use mathlib.Core.Bool.{Bool, true, false, ◌&&◌}
use mathlib.Core.List.{List, [], ◌∷◌, Memᴰ}
use mathlib.Core.Logic.{◌⊎◌, inl, inr, ⊎_elim}
use mathlib.Core.Path.{◌≡◌, refl, sym, ap, ◌∙◌}
use Prim.Native.Nat.{ℕ, pred, ◌+◌, ◌-◌, ◌≤◌, ◌<◌}
use native.Mathlib.Decide.{dec_le}
use native.Mathlib.Omega.{arith, min_cases}
use borrow.Author.Tests.{le-leb, lt-ltb, leb-true, ltb-true}
use lib.Dec.{leb, ltb}
use Rattle.model.proofs.Laws.Codes.{decode-code}
use Rattle.model.specs.Counting.{one_if}
use Rattle.model.specs.Distance.{Distance, metres, none, least, plus, difference, exactly, code, decode}
use Rattle.model.proofs.Laws.Counting.{count-below-cong, count-numbers, one-if-one}
use Rattle.model.proofs.Laws.Perimeter.{exactly-true}
use Rattle.model.proofs.Laws.Refusal.{both_true}
use Rattle.model.specs.Location.{along_edge_of}
use Rattle.perimeter.specs.Reach.{by_ends_of, left_of, inside_distance, insides_at, unseen}
use Rattle.perimeter.specs.Sight.{lies, met, met_count, MetCounted}
use Rattle.perimeter.specs.declared.edges.Sight.{Sight}
use Rattle.perimeter.proofs.Candidates.{distinct, count-candidates, unseen-failing, unseen-fails}

-- a number of metres that is the lesser of two distances is one of them
least-is : (d e : Distance) (n : ℕ) → least d e ≡ metres n → (d ≡ metres n) ⊎ (e ≡ metres n)
unfolding least
least-is none e n p = inr p
least-is (metres l) none n p = inl p
least-is (metres l) (metres m) n p =
    min_cases l m ((metres l ≡ metres n) ⊎ (metres m ≡ metres n)) (λ h q. inl (ap metres (sym q) ∙ p)) (λ h q. inr (ap metres (sym q) ∙ p))

-- the metres in front of a distance are what the distance leaves of the sum
front_is : (gap : ℕ) (d : Distance) (radius : ℕ) → plus (metres gap) d ≡ metres radius → gap ≡ left_of radius d
unfolding plus left_of
front_is gap none radius p = let z : ◌≡◌ {A = ℕ} 0 1 = cc in absurd (omega arith)
front_is gap (metres n) radius p = let e : gap + n ≡ radius = cc in omega arith

-- on the centre's own edge: before it or behind it
stretch_is : (own : Bool) (x y radius : ℕ) → along_edge_of own x y ≡ metres radius → (y ≡ x - radius) ⊎ (y ≡ x + radius)
unfolding along_edge_of difference
stretch_is false x y radius p = let z : ◌≡◌ {A = ℕ} 0 1 = cc in absurd (omega arith)
stretch_is true x y radius p = go (dec_le y x)
  where
    e : (x - y) + (y - x) ≡ radius
    e = cc

    go : Dec (y ≤ x) → (y ≡ x - radius) ⊎ (y ≡ x + radius)
    go (yes h) = inl (omega (arith, e))
    go (no h) = inr (omega (arith, e))

-- the four candidates
unfoldable pub candidates : Distance → Distance → ℕ → ℕ → ℕ → List ℕ
candidates end1 end2 size offset radius =
    left_of radius end1 ∷ (size - left_of radius end2) ∷ (offset - radius) ∷ (offset + radius) ∷ []

-- an offset of the edge at exactly the radius is one of them
among : (end1 end2 : Distance) (size : ℕ) (own : Bool) (offset radius y : ℕ) → y ≤ size → inside_distance end1 end2 size own offset y ≡ metres radius → Memᴰ y (candidates end1 end2 size offset radius)
unfolding inside_distance by_ends_of candidates
among end1 end2 size own offset radius y h e =
    ⊎_elim
    (λ p. ⊎_elim first second (least-is _ _ radius p))
    (λ p. ⊎_elim third fourth (stretch_is own offset y radius p))
    (least-is _ _ radius e)
  where
    cs : List ℕ
    cs = candidates end1 end2 size offset radius

    first : plus (metres y) end1 ≡ metres radius → Memᴰ y cs
    first p = Memᴰ.head (front_is y end1 radius p)

    second : plus (metres (size - y)) end2 ≡ metres radius → Memᴰ y cs
    second p =
        let q : y ≡ size - left_of radius end2 = omega (arith, front_is (size - y) end2 radius p) in
        Memᴰ.tail (Memᴰ.head q)

    third : y ≡ offset - radius → Memᴰ y cs
    third p = Memᴰ.tail (Memᴰ.tail (Memᴰ.head p))

    fourth : y ≡ offset + radius → Memᴰ y cs
    fourth p = Memᴰ.tail (Memᴰ.tail (Memᴰ.tail (Memᴰ.head p)))

module _ (s : Sight) where
  -- the candidates of the edge
  sighted : List ℕ
  sighted = candidates (decode s.end1) (decode s.end2) s.length s.offset s.radius

  -- what is met is strictly inside
  met-inside : (y : ℕ) → met s y ≡ true → (1 ≤ y) × (y < s.length)
  unfolding met
  met-inside y e =
      let inner = both_true _ _ (both_true _ _ e).0 in
      (leb-true 1 y inner.0, ltb-true y s.length inner.1)

  -- and is a candidate
  met-among : (y : ℕ) → met s y ≡ true → Memᴰ y sighted
  unfolding met lies sighted
  met-among y e =
      among _ _ s.length s.own s.offset s.radius y
      (omega (arith, met-inside y e))
      (exactly-true _ _ (both_true (leb 1 y && ltb y s.length) _ e).1)

  -- strictly inside the edge only the distance counts
  inside-met : (y : ℕ) → 1 ≤ y → y < s.length → met s y ≡ exactly (lies s y) s.radius
  unfolding met
  inside-met y h k = simp (le-leb 1 y h, lt-ltb y s.length k)

  pub met-if-at : (y c : ℕ) {b : Bool} → 1 ≤ y → y < s.length → c ≡ code (lies s y) → b ≡ exactly (decode c) s.radius → b ≡ met s y
  met-if-at y c h k p q = q ∙ ap (λ d. exactly d s.radius) (ap decode p ∙ decode-code _) ∙ sym (inside-met y h k)

  -- an offset that is not inside is not met
  pub not-inside : (y : ℕ) → (1 ≤ y → y < s.length → ⊥) → false ≡ met s y
  unfolding met
  not-inside y h = go (leb 1 y) refl (ltb y s.length) refl
    where
      go : (a : Bool) → leb 1 y ≡ a → (b : Bool) → ltb y s.length ≡ b → false ≡ (a && b) && exactly (lies s y) s.radius
      go true p true q = absurd (h (leb-true 1 y p) (ltb-true y s.length q))
      go true p false q = refl
      go false p b q = refl

  -- the candidates count all that is met
  met-candidates : met_count s ≡ distinct (met s) sighted
  unfolding met_count insides_at lies
  met-candidates =
      count-numbers _ 1 (pred s.length) ∙
      count-below-cong (pred s.length) _ _ (λ i l. sym (inside-met (1 + i) (omega arith) (omega arith))) ∙
      count-candidates (pred s.length) sighted (met s)
      (λ y e. let inner = met-inside y e in (inner.0, omega arith))
      met-among

  -- offset 0 is never met, so it may stand for no offset seen before
  not-at-zero : met s 0 ≡ false
  unfolding met
  not-at-zero = refl

  none_seen : (y : ℕ) → unseen 0 (unseen 0 (unseen 0 (met s))) y ≡ met s y
  none_seen y =
      unseen-failing 0 _ (unseen-fails 0 _ 0 (unseen-fails 0 _ 0 not-at-zero)) y ∙
      unseen-failing 0 _ (unseen-fails 0 _ 0 not-at-zero) y ∙
      unseen-failing 0 _ not-at-zero y

  one_seen : (c y : ℕ) → unseen 0 (unseen 0 (unseen c (met s))) y ≡ unseen c (met s) y
  one_seen c y =
      unseen-failing 0 _ (unseen-fails 0 _ 0 (unseen-fails c _ 0 not-at-zero)) y ∙
      unseen-failing 0 _ (unseen-fails c _ 0 not-at-zero) y

  two-seen : (b c y : ℕ) → unseen 0 (unseen b (unseen c (met s))) y ≡ unseen b (unseen c (met s)) y
  two-seen b c y = unseen-failing 0 _ (unseen-fails b _ 0 (unseen-fails c _ 0 not-at-zero)) y

  -- the four tests, each without the candidates before it, count what is met
  pub four-tests : {y1 y2 y3 y4 n1 n2 n3 n4 : ℕ} → y1 ≡ left_of s.radius (decode s.end1) → y2 ≡ s.length - left_of s.radius (decode s.end2) → y3 ≡ s.offset - s.radius → y4 ≡ s.offset + s.radius → n1 ≡ one_if (unseen 0 (unseen 0 (unseen 0 (met s))) y1) → n2 ≡ one_if (unseen 0 (unseen 0 (unseen y1 (met s))) y2) → n3 ≡ one_if (unseen 0 (unseen y2 (unseen y1 (met s))) y3) → n4 ≡ one_if (unseen y3 (unseen y2 (unseen y1 (met s))) y4) → MetCounted s (n1 + n2 + n3 + n4)
  unfolding sighted candidates distinct
  four-tests {y1} {y2} {y3} {y4} {n1} {n2} {n3} {n4} p1 p2 p3 p4 q1 q2 q3 q4 =
      let total : met_count s ≡ one_if (met s y1) + (one_if (unseen y1 (met s) y2) + (one_if (unseen y2 (unseen y1 (met s)) y3) + (one_if (unseen y3 (unseen y2 (unseen y1 (met s))) y4) + 0))) =
      rw (p1, p2, p3, p4) met-candidates
      in
      let e1 : n1 ≡ one_if (met s y1) = q1 ∙ ap one_if (none_seen y1) in
      let e2 : n2 ≡ one_if (unseen y1 (met s) y2) = q2 ∙ ap one_if (one_seen y1 y2) in
      let e3 : n3 ≡ one_if (unseen y2 (unseen y1 (met s)) y3) = q3 ∙ ap one_if (two-seen y2 y1 y3) in
      record {
        is = omega arith;
        few = omega (arith, one-if-one (met s y1), one-if-one (unseen y1 (met s) y2), one-if-one (unseen y2 (unseen y1 (met s)) y3), one-if-one (unseen y3 (unseen y2 (unseen y1 (met s))) y4));
      }
