-- The location distance is the least length over all walks between two locations; it is symmetric, 0 from a location to
-- itself, and the same by both ends of each location's edge.
use mathlib.Core.Bool.{Bool, true, false, cond}
use mathlib.Core.List.Memᴰ
use mathlib.Core.List.{Memᴰ}
use mathlib.Core.Logic.{inl, inr, ⊎_elim}
use mathlib.Core.Path.{◌≡◌, refl, subst, sym, ap, ◌∙◌}
use Prim.Native.Nat.{ℕ, pred, ◌-◌, ◌≤◌, ◌<◌}
use native.Mathlib.Omega.{arith}
use borrow.Author.Tests.{eqb-true, eqb-false, eq-eqb}
use lib.Dec.{eqb}
use Rattle.model.specs.Distance.{Distance, metres, none, least, plus, least_of, difference}
use Rattle.model.specs.Events.{Event, IsEvent, event_location}
use Rattle.model.specs.Location.{Location, node, inside, location_of, IsLocation, a_node, an_inside, End, end, edge_ends, ends, LocationWalk, through_ends, along, route, routes, along_edge_of, stretch, location_distance_of, IsLocationDistance, edge_distance}
use Rattle.model.specs.Network.{Network, IsNode, EndsAreNodes, edges, first, second, size}
use Rattle.model.specs.Walk.{Walk, here, IsLeast, attained, no_walk, forward, backward}
use Rattle.model.proofs.Laws.Least.{least-unique, least-map}
use Rattle.model.proofs.Laws.Distance.{least-comm, least-of-le, zero-le}
use Rattle.model.proofs.Laws.Gaps.{Either, Matched, least-either, least-matched, EndWalk, from-to, routes-least}
use Rattle.model.proofs.Laws.NodeDistance.{node-self, walk-join, walk_turn, edge-walk}

-- the stretch between two locations inside one edge, as a kind of walk
data StretchWalk : Location → Location → ℕ → Type 0 where
  on-one-edge : {i j x y n : ℕ} → i ≡ j → difference x y ≡ n → StretchWalk (inside i x) (inside j y) n

-- the stretch is the least of its kind
stretch-least : (p q : Location) → IsLeast (StretchWalk p q) (stretch p q)
unfolding stretch along_edge_of
stretch-least (node v) q = no_walk (λ n s. elim s [ ])
stretch-least (inside i x) (node w) = no_walk (λ n s. elim s [ ])
stretch-least (inside i x) (inside j y) = go (eqb i j) refl
  where
    apart : {n : ℕ} → StretchWalk (inside i x) (inside j y) n → (i ≡ j) × (difference x y ≡ n)
    apart (on-one-edge e f) = (e, f)

    go : (b : Bool) → eqb i j ≡ b → IsLeast (StretchWalk (inside i x) (inside j y)) (cond b (metres (difference x y)) none)
    go true e = attained (on-one-edge (eqb-true i j e) refl) (λ n s. omega (arith, (apart s).1))
    go false e = no_walk (λ n s. eqb-false i j e (apart s).0)

-- a walk between locations of another, equal length
location-walk-as : {net : Network} {p q : Location} {m n : ℕ} → LocationWalk net p q m → m ≡ n → LocationWalk net p q n
location-walk-as {net} {p} {q} w e = subst (LocationWalk net p q) e w

-- a walk between locations goes by their ends, or is a stretch
walk-kinds : {net : Network} {p q : Location} (n : ℕ) → LocationWalk net p q n → Either (EndWalk net (ends net p) (ends net q)) (StretchWalk p q) n
walk-kinds n (through_ends a b w) = inl (from-to a b w refl)
walk-kinds n along = inr (on-one-edge refl refl)

-- a walk from an end to an end is a walk between the locations
walk-by-ends : {net : Network} {p q : Location} (n : ℕ) → EndWalk net (ends net p) (ends net q) n → LocationWalk net p q n
walk-by-ends n (from-to a b w e) = location-walk-as (through_ends a b w) e

-- a stretch is a walk between the locations
walk-along : {net : Network} {p q : Location} (n : ℕ) → StretchWalk p q n → LocationWalk net p q n
walk-along n (on-one-edge e f) = rw (← e) (location-walk-as along f)

-- 01: the distance of two places is the least length over the walks between them
pub location-distance : (net : Network) → EndsAreNodes net → (p q : Location) → IsLocationDistance net p q (location_distance_of net p q)
unfolding location_distance_of
location-distance net nodes p q =
    least-map
    (λ n. ⊎_elim (walk-by-ends n) (walk-along n))
    walk-kinds
    (least-either (routes-least net nodes (ends net p) (ends net q)) (stretch-least p q))

-- a walk taken the other way
pub location-walk-turn : {net : Network} {p q : Location} {n : ℕ} → LocationWalk net p q n → LocationWalk net q p n
unfolding difference
location-walk-turn (through_ends a b w) = location-walk-as (through_ends b a (walk_turn w)) (omega arith)
location-walk-turn along = location-walk-as along (omega arith)

-- the distance is the same both ways
pub location-symmetric : (net : Network) → EndsAreNodes net → (p q : Location) → location_distance_of net p q ≡ location_distance_of net q p
location-symmetric net nodes p q =
    least-unique
    (location-distance net nodes p q)
    (least-map (λ n. location-walk-turn) (λ n. location-walk-turn) (location-distance net nodes q p))

-- 0 metres is the lesser beside any distance
least_zero : (d : Distance) → least d (metres 0) ≡ metres 0
least_zero d = least-comm d (metres 0) ∙ least-of-le (zero-le d)

-- a location is at 0 metres from itself
pub location-self : (net : Network) (p : Location) → location_distance_of net p p ≡ metres 0
unfolding location_distance_of routes ends least_of route stretch along_edge_of least plus difference
location-self net (node v) = rw node-self
location-self net (inside i x) =
    let none_apart : difference x x ≡ 0 = omega arith in
    simp (eq-eqb i i refl, none_apart, least_zero)

-- v is an end of the edge at index i, and at the offset x: both ends of the edge are reached from v by walks as long as
-- their gaps, and the gap from any other offset to v is no more than the difference, and equal to it on the edge
record Corner (net : Network) (i x v : ℕ) : Type 0 where
  is-node : EndsAreNodes net → IsNode net v
  is-end : Memᴰ (end v 0) (edge_ends net i x)
  to-first : Walk net v (first net i) x
  to-second : Walk net v (second net i) (size net i - x)
  near : (y : ℕ) → (g : ℕ) × Memᴰ (end v g) (edge_ends net i y) × (g ≤ difference x y) × (y ≤ size net i → g ≡ difference x y)

-- a walk of another, equal length
walk-as : {net : Network} {u v m n : ℕ} → Walk net u v m → m ≡ n → Walk net u v n
walk-as {net} {u} {v} w e = subst (Walk net u v) e w

-- the first node, at offset 0
corner-first : (net : Network) (i x : ℕ) → i < edges net → x ≡ 0 → Corner net i x (first net i)
unfolding edge_ends difference
corner-first net i x h e = record {
  is-node = λ nodes. nodes.first_is i h;
  is-end = Memᴰ.head (ap (end (first net i)) (sym e));
  to-first = walk-as here (sym e);
  to-second = walk-as (edge-walk i h (forward refl refl)) (omega arith);
  near = λ y. (y, Memᴰ.head refl, omega arith, omega arith);
}

-- the second node, at the full length
corner-second : (net : Network) (i x : ℕ) → i < edges net → x ≡ size net i → Corner net i x (second net i)
unfolding edge_ends difference
corner-second net i x h e = record {
  is-node = λ nodes. nodes.second_is i h;
  is-end = Memᴰ.tail (Memᴰ.head (ap (end (second net i)) {y = size net i - x} (omega arith)));
  to-first = walk-as (edge-walk i h (backward refl refl)) (sym e);
  to-second = walk-as here (omega arith);
  near = λ y. (size net i - y, Memᴰ.tail (Memᴰ.head refl), omega arith, omega arith);
}

-- what a location at an offset of an edge is: a node at an end of the edge, or strictly inside
data Placed (net : Network) (i x : ℕ) : Location → Type 0 where
  at-corner : {v : ℕ} → Corner net i x v → Placed net i x (node v)
  between : 1 ≤ x → x < size net i → Placed net i x (inside i x)

-- the location at an offset that is not beyond the edge is one of these
placed : (net : Network) (i x : ℕ) → i < edges net → x ≤ size net i → Placed net i x (location_of net i x)
unfolding location_of
placed net i x h l = at_first (eqb x 0) refl
  where
    at_second : (b : Bool) → eqb x (size net i) ≡ b → eqb x 0 ≡ false → Placed net i x (cond b (node (second net i)) (inside i x))
    at_second true e f = at-corner (corner-second net i x h (eqb-true x (size net i) e))
    at_second false e f = between (omega (arith, eqb-false x 0 f)) (omega (arith, eqb-false x (size net i) e))

    at_first : (b : Bool) → eqb x 0 ≡ b → Placed net i x (cond b (node (first net i)) (cond (eqb x (size net i)) (node (second net i)) (inside i x)))
    at_first true e = at-corner (corner-first net i x h (eqb-true x 0 e))
    at_first false e = at_second (eqb x (size net i)) refl e

-- from a corner to each end of the edge the gap is the length of a walk
corner-walk : {net : Network} {i x v : ℕ} {a : End} → Corner net i x v → Memᴰ a (edge_ends net i x) → Walk net v a.at a.gap
unfolding edge_ends
corner-walk {net} {v = v} {a = a} c m = ⊎_elim (to c.to-first) (λ t. to c.to-second (Memᴰ.eq_of_singleton t)) (Memᴰ.cases_cons m)
  where
    to : {b : End} → Walk net v b.at b.gap → a ≡ b → Walk net v a.at a.gap
    to w e = rw e w

-- from a corner to an offset of the edge by the gap alone
corner-inside : {net : Network} {i x v : ℕ} (c : Corner net i x v) (y : ℕ) → LocationWalk net (node v) (inside i y) (c.near y).0
unfolding ends
corner-inside c y = location-walk-as (through_ends (Memᴰ.head refl) (c.near y).1 here) (omega arith)

-- a walk from a location at an offset is one from the offset inside, seen with both ends of the edge
inside-walk : {net : Network} {i x : ℕ} {p q : Location} {n : ℕ} → Placed net i x p → LocationWalk net p q n → LocationWalk net (inside i x) q n
unfolding ends
inside-walk (at-corner c) (through_ends a b w) = through_ends (Memᴰ.cast (Memᴰ.eq_of_singleton a) c.is-end) b w
inside-walk (between from below) w = w

-- and every walk seen so is matched by one from the location
placed-walk : {net : Network} {i x : ℕ} {p q : Location} {n : ℕ} → Placed net i x p → LocationWalk net (inside i x) q n → (m : ℕ) × LocationWalk net p q m × (m ≤ n)
unfolding ends
placed-walk (at-corner c) (through_ends a b w) = (_, through_ends (Memᴰ.head refl) b (walk-join (corner-walk c a) w), omega arith)
placed-walk (at-corner c) (along {y = y}) = (_, corner-inside c y, (c.near y).2)
placed-walk {n = n} (between from below) w = (n, w, omega arith)

-- on one edge there is a walk as long as the difference of the offsets
placed-stretch : {net : Network} {i x y : ℕ} {p q : Location} → Placed net i x p → Placed net i y q → x ≤ size net i → y ≤ size net i → LocationWalk net p q (difference x y)
unfolding ends difference
placed-stretch {x = x} (at-corner c) (at-corner c') h k =
    location-walk-as
    (through_ends (Memᴰ.head refl) (Memᴰ.head refl) (corner-walk c (c'.near x).1))
    (omega (arith, (c'.near x).3 h))
placed-stretch {y = y} (at-corner c) (between from below) h k = location-walk-as (corner-inside c y) ((c.near y).3 k)
placed-stretch {x = x} (between from below) (at-corner c) h k =
    location-walk-as (location-walk-turn (corner-inside c x)) (omega (arith, (c.near x).3 h))
placed-stretch (between from below) (between from' below') h k = along

-- 01: on one leg the stretch between the two, also where an offset is 0 or the full length
pub stretch-walk : (net : Network) (i x y : ℕ) → i < edges net → x ≤ size net i → y ≤ size net i → LocationWalk net (location_of net i x) (location_of net i y) (difference x y)
stretch-walk net i x y e h k = placed-stretch (placed net i x e h) (placed net i y e k) h k

-- walks between two offsets, seen with both ends of each edge, are matched by walks between the locations there
both-placed : {net : Network} {i x j y : ℕ} {p q : Location} → Placed net i x p → Placed net j y q → Matched (LocationWalk net (inside i x) (inside j y)) (LocationWalk net p q)
both-placed s t n w =
    let (m, v, h) = placed-walk s w in
    let (l, u, k) = placed-walk t (location-walk-turn v) in
    (l, location-walk-turn u, omega arith)

-- and the other way round
both-inside : {net : Network} {i x j y : ℕ} {p q : Location} → Placed net i x p → Placed net j y q → Matched (LocationWalk net p q) (LocationWalk net (inside i x) (inside j y))
both-inside s t n w =
    (n, inside-walk s (location-walk-turn (inside-walk t (location-walk-turn w))), omega arith)

-- the distance by both ends of each edge is the one of the two as offsets inside
pub edge-inside : (net : Network) (i x j y : ℕ) → edge_distance net i x j y ≡ location_distance_of net (inside i x) (inside j y)
unfolding edge_distance location_distance_of ends stretch
edge-inside net i x j y = refl

-- what the counting methods use is the location distance
pub edge-distance : (net : Network) → EndsAreNodes net → (i x j y : ℕ) → i < edges net → j < edges net → x ≤ size net i → y ≤ size net j → edge_distance net i x j y ≡ location_distance_of net (location_of net i x) (location_of net j y)
edge-distance net nodes i x j y e f h k =
    let s = placed net i x e h in
    let t = placed net j y f k in
    edge-inside net i x j y ∙
    least-unique
    (least-matched (location-distance net nodes (inside i x) (inside j y)) (both-placed s t) (both-inside s t))
    (location-distance net nodes (location_of net i x) (location_of net j y))

-- a location at an offset of an edge is one of the network
pub edge-location : (net : Network) → EndsAreNodes net → (i x : ℕ) → i < edges net → x ≤ size net i → IsLocation net (location_of net i x)
edge-location net nodes i x e h = located (placed net i x e h)
  where
    located : {p : Location} → Placed net i x p → IsLocation net p
    located (at-corner c) = a_node (c.is-node nodes)
    located (between from below) = an_inside e from below

-- an event lies at a location of the network
pub is-location : (net : Network) → EndsAreNodes net → (e : Event) → IsEvent net e → IsLocation net (event_location net e)
unfolding event_location
is-location net nodes e v = edge-location net nodes (pred e.edge) e.offset (omega arith) v.on_edge

-- the location at an offset of an edge is as far from any other as the offset inside, seen with both ends of the edge
pub from-inside : (net : Network) → EndsAreNodes net → (i x : ℕ) → i < edges net → x ≤ size net i → (q : Location) → location_distance_of net (location_of net i x) q ≡ location_distance_of net (inside i x) q
from-inside net nodes i x e h q =
    let s = placed net i x e h in
    least-unique
    (location-distance net nodes (location_of net i x) q)
    (least-matched (location-distance net nodes (inside i x) q) (λ n w. placed-walk s w) (λ n w. (n, inside-walk s w, omega arith)))
