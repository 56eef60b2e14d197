-- What the definitions say of a loop, an edge that joins a node to itself: offset 0 and the full length are one location, the node; the
-- distance of two locations on it is the shorter of the two ways round; and from elsewhere they are reached by way of the node, by the
-- shorter of their two gaps to it.
use mathlib.Core.Bool.{Bool, true, false, cond}
use mathlib.Core.List.{List, [], ◌∷◌, map}
use mathlib.Core.Path.{◌≡◌, refl, sym, ap, ap₂, ◌∙◌}
use Prim.Native.Nat.{ℕ, ◌+◌, ◌-◌, ◌≤◌, ◌<◌, min}
use native.Mathlib.Omega.{arith}
use native.Mathlib.Decide.{dec_le}
use borrow.Author.Tests.{eq-eqb, ne_eqb}
use lib.Dec.{eqb}
use Rattle.model.specs.Distance.{Distance, metres, none, least, plus, least_of, difference}
use Rattle.model.specs.Location.{Location, node, inside, location_of, End, end, edge_ends, ends, route, routes, along_edge_of, stretch, location_distance_of}
use Rattle.model.specs.Network.{Network, EndsAreNodes, edges, first, second, size}
use Rattle.model.specs.Walk.{Joins, forward, backward}
use Rattle.model.proofs.Laws.Distance.{least-none, plus_comm, plus_assoc, plus-zero, plus-least, least-plus}
use Rattle.model.proofs.Laws.Location.{location-self, edge-distance, edge-inside, from-inside}
use Rattle.model.proofs.Laws.NodeDistance.{node-self}

-- 0 metres and then a distance are the distance
zero-plus : (d : Distance) → plus (metres 0) d ≡ d
zero-plus d = plus_comm (metres 0) d ∙ plus-zero d

-- the least of the four routes between the offsets x and y of a loop, g and h being their gaps to its second end, and of the stretch d
abbrev shortest : ℕ → ℕ → ℕ → ℕ → ℕ → ℕ
shortest x y g h d = min (min (min (x + 0 + y) (x + 0 + h)) (min (g + 0 + y) (g + 0 + h))) d

-- only two of these can be the least: the stretch, and the route that leaves the lesser offset by the first end and comes to the greater
-- by the second
rising : (x y g h d : ℕ) → x + d ≡ y → x + g ≡ y + h → shortest x y g h d ≡ min d (x + h)
rising x y g h d e f = omega arith

falling : (x y g h d : ℕ) → y + d ≡ x → x + g ≡ y + h → shortest x y g h d ≡ min d (y + g)
falling x y g h d e f = omega arith

-- and that route is as long as the loop less the stretch
round : (x y n : ℕ) → x ≤ n → y ≤ n → shortest x y (n - x) (n - y) (difference x y) ≡ min (difference x y) (n - difference x y)
unfolding difference
round x y n h k = go (dec_le x y)
  where
    go : Dec (x ≤ y) → shortest x y (n - x) (n - y) (difference x y) ≡ min (difference x y) (n - difference x y)
    go (yes l) =
        let rest : n - difference x y ≡ x + (n - y) = omega arith in
        rw rest (rising x y (n - x) (n - y) (difference x y) (omega arith) (omega arith))
    go (no l) =
        let rest : n - difference x y ≡ y + (n - x) = omega arith in
        rw rest (falling x y (n - x) (n - y) (difference x y) (omega arith) (omega arith))

-- a route behind a gap is the gap and then the route from the node
route-behind : (net : Network) (v g : ℕ) (b : End) → route net (end v g) b ≡ plus (metres g) (route net (end v 0) b)
unfolding route
route-behind net v g b = rw (zero-plus, plus_assoc)

-- and so is the least of the routes to several ends
routes-behind : (net : Network) (v g : ℕ) (bs : List End) → least_of (map (route net (end v g)) bs) ≡ plus (metres g) (least_of (map (route net (end v 0)) bs))
unfolding least_of plus
routes-behind net v g [] = refl
routes-behind net v g (b ∷ bs) = ap₂ least (route-behind net v g b) (routes-behind net v g bs) ∙ sym (plus-least (metres g) _ _)

-- the lesser of two gaps in front of one distance
lesser-gap : (m n : ℕ) (d : Distance) → plus (metres (min m n)) d ≡ least (plus (metres m) d) (plus (metres n) d)
unfolding least
lesser-gap m n d = least-plus (metres m) (metres n) d

-- the distance from a node is the least of the routes from it
from-node : (net : Network) (v : ℕ) (q : Location) → location_distance_of net (node v) q ≡ least_of (map (route net (end v 0)) (ends net q))
unfolding location_distance_of routes ends stretch
from-node net v q = least-none _ ∙ least-none _

-- a choice between a location and itself
either_way : (b : Bool) (p : Location) → cond b p p ≡ p
either_way true p = refl
either_way false p = refl

-- no stretch leads from an edge to a location that is not inside it
no-stretch : (i x : ℕ) (q : Location) → ((y : ℕ) → q ≡ inside i y → ⊥) → stretch (inside i x) q ≡ none
unfolding stretch along_edge_of
no-stretch i x (node w) away = refl
no-stretch i x (inside k y) away = rw (ne_eqb i k (λ e. away y (ap (λ (n : ℕ). inside n y) (sym e))))

module _ {net : Network} {i v : ℕ} where
  -- both ends of a loop are its node
  loop-ends : Joins net i v v → (first net i ≡ v) × (second net i ≡ v)
  loop-ends (forward p q) = (p, q)
  loop-ends (backward p q) = (q, p)

  -- 02: offset 0 is the node
  pub loop-begins : Joins net i v v → location_of net i 0 ≡ node v
  unfolding location_of
  loop-begins j = ap node (loop-ends j).0

  -- and so is the full length
  pub loop-closes : Joins net i v v → location_of net i (size net i) ≡ node v
  unfolding location_of
  loop-closes j = rw ((loop-ends j).0, (loop-ends j).1, eq-eqb (size net i) (size net i) refl) (either_way (eqb (size net i) 0) (node v))

  -- the shorter of the two ways round, for offsets seen as inside the edge
  inside-round : Joins net i v v → (x y : ℕ) → x ≤ size net i → y ≤ size net i → location_distance_of net (inside i x) (inside i y) ≡ metres (min (difference x y) (size net i - difference x y))
  unfolding location_distance_of routes ends edge_ends least_of route stretch along_edge_of least plus difference
  inside-round j x y h k = rw ((loop-ends j).0, (loop-ends j).1, node-self, eq-eqb i i refl) (ap metres (round x y (size net i) h k))

  -- 02: the distance of two locations on a loop, its node among them, is the shorter of the two ways round
  pub loop-round : EndsAreNodes net → i < edges net → Joins net i v v → (x y : ℕ) → x ≤ size net i → y ≤ size net i → location_distance_of net (location_of net i x) (location_of net i y) ≡ metres (min (difference x y) (size net i - difference x y))
  loop-round nodes below j x y h k = sym (edge-distance net nodes i x i y below below h k) ∙ edge-inside net i x i y ∙ inside-round j x y h k

  -- the least of the routes by the two gaps, where no stretch joins the two locations
  two-gaps : Joins net i v v → (x : ℕ) (q : Location) → stretch (inside i x) q ≡ none → location_distance_of net (inside i x) q ≡ plus (metres (min x (size net i - x))) (location_distance_of net (node v) q)
  unfolding location_distance_of routes ends edge_ends
  two-gaps j x q apart =
      rw (from-node net v q, (loop-ends j).0, (loop-ends j).1, apart)
      (simp least-none
      (ap₂ least (routes-behind net v x (ends net q)) (routes-behind net v (size net i - x) (ends net q))
      ∙ sym (lesser-gap x (size net i - x) _)))

  -- 02: to a location that is not inside the loop it is the shorter of the two gaps to the node, and the distance from there
  pub loop-away : EndsAreNodes net → i < edges net → Joins net i v v → (x : ℕ) → x ≤ size net i → (q : Location) → ((y : ℕ) → q ≡ inside i y → ⊥) → location_distance_of net (location_of net i x) q ≡ plus (metres (min x (size net i - x))) (location_distance_of net (node v) q)
  loop-away nodes below j x h q away = from-inside net nodes i x below h q ∙ two-gaps j x q (no-stretch i x q away)

  -- 02: of its two gaps to the node the shorter is its distance from it
  pub loop-gap : EndsAreNodes net → i < edges net → Joins net i v v → (x : ℕ) → x ≤ size net i → location_distance_of net (location_of net i x) (node v) ≡ metres (min x (size net i - x))
  loop-gap nodes below j x h =
      loop-away nodes below j x h (node v) (λ y e. let z : ◌≡◌ {A = ℕ} 0 1 = cc in omega arith)
      ∙ ap (plus (metres (min x (size net i - x)))) (location-self net (node v))
      ∙ plus-zero _
