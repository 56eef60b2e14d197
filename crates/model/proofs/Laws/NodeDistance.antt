-- The node distance is the least length over all walks; from that, symmetry and the triangle inequality.
use mathlib.Core.Bool.{Bool, true, false, cond, ◌&&◌, ◌||◌, or-true}
use mathlib.Core.Path.{◌≡◌, refl, subst}
use Prim.Native.Nat.{ℕ, zero, suc, ◌+◌, ◌≤◌, ◌<◌}
use native.Mathlib.Omega.{arith}
use native.Mathlib.Decide.{ℕ_discrete}
use lib.Dec.{eqb}
use borrow.Author.Tests.{eq-eqb, eqb-true}
use Rattle.model.specs.Network.{Network, edges, first, second, size, IsNode, EndsAreNodes}
use Rattle.model.specs.Distance.{Distance, metres, none, least, plus, least_below}
use Rattle.model.specs.Walk.{Joins, forward, backward, Walk, here, onward}
use Rattle.model.specs.NodeDistance.{crossing, direct, through, node_distance_of, bounded_distance, IsNodeDistance, IsBoundedDistance}
use Rattle.model.proofs.Laws.Distance.{Le, zero-le, in_order, le_refl, le_trans, le_antisym, le_of_eq, least-left, least-right, least-greatest, plus_assoc, plus-monotone, le-plus-left, le-plus-right, plus-least, least-plus}
use Rattle.model.proofs.Laws.Least.{below_each, Reached, reached-least, reached-plus, reached-below, is-least, least-reached, least-le, least-unique, least-map, least-bounded}

-- an edge is a walk of its length
pub edge-walk : {net : Network} {u v : ℕ} (i : ℕ) → i < edges net → Joins net i u v → Walk net u v (size net i)
edge-walk {net} {u} {v} i h j = subst (Walk net u v) (omega arith) (onward i h here j)

-- a walk to v and a walk from v make one
pub walk-join : {net : Network} {u v w m n : ℕ} → Walk net u v m → Walk net v w n → Walk net u w (m + n)
walk-join {net} {u} {m = m} p here = subst (Walk net u _) (omega arith) p
walk-join {net} {u} {w = w} {m = m} p (onward {n = n} i h q j) =
    subst (Walk net u w) (omega arith) (onward i h (walk-join p q) j)

-- an edge joins both ways
pub joins-turn : {net : Network} {i u v : ℕ} → Joins net i u v → Joins net i v u
joins-turn (forward p q) = backward q p
joins-turn (backward p q) = forward q p

-- a walk can be walked the other way round
pub walk_turn : {net : Network} {u v n : ℕ} → Walk net u v n → Walk net v u n
walk_turn here = here
walk_turn {net} {v = v} (onward {u = u} {n = n} i h q j) =
    subst (Walk net v u) (omega arith) (walk-join (edge-walk i h (joins-turn j)) (walk_turn q))

-- a walk as long as one distance says and then one as long as another says
reached-join : (net : Network) (u v w : ℕ) (d e : Distance) → Reached (Walk net u v) d → Reached (Walk net v w) e → Reached (Walk net u w) (plus d e)
reached-join net u v w d e =
    reached-plus (Walk net u v) (Walk net v w) (Walk net u w) (λ m n p q. walk-join p q) d e

-- an edge that joins u and v crosses from u to v in its length
crossing-joins : (net : Network) (u v i : ℕ) → Joins net i u v → crossing net u v i ≡ metres (size net i)
unfolding crossing
crossing-joins net u v i (forward p q) = simp (eq-eqb _ _ p, eq-eqb _ _ q)
crossing-joins net u v i (backward p q) = simp (eq-eqb _ _ p, eq-eqb _ _ q, or-true)

-- and only such an edge does
crossing-reached : (net : Network) (u v i : ℕ) → i < edges net → Reached (Walk net u v) (crossing net u v i)
unfolding crossing
crossing-reached net u v i h =
    by_tests (eqb (first net i) u) (eqb (second net i) v) (eqb (second net i) u) (eqb (first net i) v) refl refl refl refl
  where
    backwards : (c d : Bool) → eqb (second net i) u ≡ c → eqb (first net i) v ≡ d → Reached (Walk net u v) (cond (c && d) (metres (size net i)) none)
    backwards true true r s = edge-walk i h (backward (eqb-true _ _ r) (eqb-true _ _ s))
    backwards true false r s = tt
    backwards false d r s = tt

    by_tests : (a b c d : Bool) → eqb (first net i) u ≡ a → eqb (second net i) v ≡ b → eqb (second net i) u ≡ c → eqb (first net i) v ≡ d → Reached (Walk net u v) (cond ((a && b) || (c && d)) (metres (size net i)) none)
    by_tests true true c d p q r s = edge-walk i h (forward (eqb-true _ _ p) (eqb-true _ _ q))
    by_tests true false c d p q r s = backwards c d r s
    by_tests false b c d p q r s = backwards c d r s

-- no edge, or one: from a node to itself 0 metres, from end to end of an edge at most its length
direct-self : (net : Network) (u : ℕ) → direct net u u ≡ metres 0
unfolding direct
direct-self net u = simp (eq-eqb u u refl)

direct-le : (net : Network) (u v i : ℕ) → i < edges net → Joins net i u v → Le (direct net u v) (metres (size net i))
unfolding direct
direct-le net u v i h j = by-test (eqb u v)
  where
    by-test : (b : Bool) → Le (cond b (metres 0) (least_below (edges net) (crossing net u v))) (metres (size net i))
    by-test true = in_order (omega arith)
    by-test false = le_trans (below_each (edges net) (crossing net u v) i h) (le_of_eq (crossing-joins net u v i j))

direct-reached : (net : Network) (u v : ℕ) → Reached (Walk net u v) (direct net u v)
unfolding direct
direct-reached net u v = by-test (eqb u v) refl
  where
    by-test : (b : Bool) → eqb u v ≡ b → Reached (Walk net u v) (cond b (metres 0) (least_below (edges net) (crossing net u v)))
    by-test true p = subst (λ x. Walk net u x 0) (eqb-true u v p) here
    by-test false p = reached-below (Walk net u v) (edges net) (crossing net u v) (crossing-reached net u v)

-- the more inner nodes are allowed, the shorter
through-more : (net : Network) (k u v : ℕ) → Le (through net (suc k) u v) (through net k u v)
unfolding through
through-more net k u v = least-left (through net k u v) (plus (through net k u (suc k)) (through net k (suc k) v))

through-direct : (net : Network) (k u v : ℕ) → Le (through net k u v) (direct net u v)
unfolding through
through-direct net zero u v = le_refl (direct net u v)
through-direct net (suc k) u v = le_trans (through-more net k u v) (through-direct net k u v)

-- every number of metres is the length of a walk
through-reached : (net : Network) (k u v : ℕ) → Reached (Walk net u v) (through net k u v)
unfolding through
through-reached net zero u v = direct-reached net u v
through-reached net (suc k) u v =
    reached-least
    (Walk net u v)
    (through net k u v)
    (plus (through net k u (suc k)) (through net k (suc k) v))
    (through-reached net k u v)
    (reached-join
    net
    u
    (suc k)
    v
    (through net k u (suc k))
    (through net k (suc k) v)
    (through-reached net k u (suc k))
    (through-reached net k (suc k) v))

-- below the four sums of a choice and a choice is below the sum of the lesser ones
below-sums : {x : Distance} (a b c d : Distance) → Le x (plus a c) → Le x (plus a d) → Le x (plus b c) → Le x (plus b d) → Le x (plus (least a b) (least c d))
below-sums a b c d ac ad bc bd =
    rw least-plus (least-greatest (rw plus-least (least-greatest ac ad)) (rw plus-least (least-greatest bc bd)))

-- a way by the last node allowed is at least the way by it
through-last : (net : Network) (k u v : ℕ) → Le (through net (suc k) u v) (plus (through net (suc k) u (suc k)) (through net (suc k) (suc k) v))
unfolding through
through-last net k u v =
    le_trans
    (least-right (D u v) (plus (D u s) (D s v)))
    (plus-monotone
    (least-greatest (le_refl (D u s)) (le-plus-left (D u s) (D s s)))
    (least-greatest (le_refl (D s v)) (le-plus-right (D s s) (D s v))))
  where
    s : ℕ
    s = suc k

    D : ℕ → ℕ → Distance
    D = through net k

-- one more node keeps the triangle by an earlier one
through-earlier : (net : Network) (k j : ℕ) → ((u v : ℕ) → Le (through net k u v) (plus (through net k u j) (through net k j v))) → (u v : ℕ) → Le (through net (suc k) u v) (plus (through net (suc k) u j) (through net (suc k) j v))
unfolding through
through-earlier net k j triangle u v =
    below-sums
    (D u j)
    (plus (D u s) (D s j))
    (D j v)
    (plus (D j s) (D s v))
    (le_trans (least-left (D u v) (plus (D u s) (D s v))) (triangle u v))
    (le_trans by_last (rw (← plus_assoc) (plus-monotone (triangle u s) (le_refl (D s v)))))
    (le_trans by_last (rw plus_assoc (plus-monotone (le_refl (D u s)) (triangle s v))))
    (le_trans by_last (plus-monotone (le-plus-left (D u s) (D s j)) (le-plus-right (D j s) (D s v))))
  where
    s : ℕ
    s = suc k

    D : ℕ → ℕ → Distance
    D = through net k

    by_last : Le (least (D u v) (plus (D u s) (D s v))) (plus (D u s) (D s v))
    by_last = least-right (D u v) (plus (D u s) (D s v))

-- the triangle by each node allowed
through-triangle : (net : Network) (k j : ℕ) → 1 ≤ j → j ≤ k → (u v : ℕ) → Le (through net k u v) (plus (through net k u j) (through net k j v))
through-triangle net zero j g h = absurd (omega arith)
through-triangle net (suc k) j g h = by_place (through-triangle net k j g) (ℕ_discrete j (suc k))
  where
    by_place : (j ≤ k → (u v : ℕ) → Le (through net k u v) (plus (through net k u j) (through net k j v))) → Dec (j ≡ suc k) → (u v : ℕ) → Le (through net (suc k) u v) (plus (through net (suc k) u j) (through net (suc k) j v))
    by_place before (yes e) u v = rw e (through-last net k u v)
    by_place before (no ne) u v = through-earlier net k j (before (omega arith)) u v

-- an end of an edge is a node
joined-node : {net : Network} → EndsAreNodes net → (i v w : ℕ) → i < edges net → Joins net i v w → IsNode net v
joined-node {net} valid i v w h (forward p q) = subst (IsNode net) p (valid.first_is i h)
joined-node {net} valid i v w h (backward p q) = subst (IsNode net) p (valid.second_is i h)

-- a node is 0 metres from itself
pub node-self : (net : Network) (u : ℕ) → node_distance_of net u u ≡ metres 0
unfolding node_distance_of
node-self net u = le_antisym (le_trans (through-direct net net.nodes u u) (le_of_eq (direct-self net u))) (zero-le (node_distance_of net u u))

-- nodes that an edge joins are no further apart than its length
pub node-edge : (net : Network) (u v i : ℕ) → i < edges net → Joins net i u v → Le (node_distance_of net u v) (metres (size net i))
unfolding node_distance_of
node-edge net u v i h j = le_trans (through-direct net net.nodes u v) (direct-le net u v i h j)

-- no walk is shorter than the node distance
node-below : {net : Network} → EndsAreNodes net → {u v n : ℕ} → Walk net u v n → Le (node_distance_of net u v) (metres n)
unfolding node_distance_of plus
node-below {net} valid (here {u = u}) = le_of_eq (node-self net u)
node-below {net} valid (onward {u = u} {v = v} {w = w} {n = n} i h p j) =
    le_trans
    (through-triangle net net.nodes v is-node.from_one is-node.to_nodes u w)
    (plus-monotone {d = metres n} {f = metres (size net i)} (node-below valid p) (node-edge net v w i h j))
  where
    is-node : IsNode net v
    is-node = joined-node valid i v w h j

-- 01: the node distance is the least length over all walks
pub node-distance : (net : Network) → EndsAreNodes net → (u v : ℕ) → IsNodeDistance net u v (node_distance_of net u v)
unfolding node_distance_of
node-distance net valid u v =
    is-least (Walk net u v) (node_distance_of net u v) (through-reached net net.nodes u v) (λ n w. node-below valid w)

-- 01: what a bounded search gives is the least length over the walks no longer than the bound
pub bounded-distance : (net : Network) → EndsAreNodes net → (bound u v : ℕ) → IsBoundedDistance net bound u v (bounded_distance net bound u v)
unfolding bounded_distance
bounded-distance net valid bound u v = least-bounded (node-distance net valid u v) bound

-- the same both ways
pub node-symmetric : (net : Network) → EndsAreNodes net → (u v : ℕ) → node_distance_of net u v ≡ node_distance_of net v u
node-symmetric net valid u v =
    least-unique (node-distance net valid u v) (least-map (λ n w. walk_turn w) (λ n w. walk_turn w) (node-distance net valid v u))

-- no longer than by a node on the way
pub node-triangle : (net : Network) → EndsAreNodes net → (u v w : ℕ) → Le (node_distance_of net u w) (plus (node_distance_of net u v) (node_distance_of net v w))
node-triangle net valid u v w =
    least-le
    (node-distance net valid u w)
    (plus (node_distance_of net u v) (node_distance_of net v w))
    (reached-join
    net
    u
    v
    w
    (node_distance_of net u v)
    (node_distance_of net v w)
    (least-reached (node-distance net valid u v))
    (least-reached (node-distance net valid v w)))
