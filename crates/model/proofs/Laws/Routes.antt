-- The four routes as one statement with the two sides as parameters, for whole and for bounded distances and for table entries.
use mathlib.Core.Bool.{Bool, true, false, cond, ◌&&◌, ◌||◌, not}
use mathlib.Core.Path.{◌≡◌, ◌∙◌, refl, sym, ap}
use Prim.Native.Nat.{ℕ, pred, ◌+◌, ◌≤◌}
use native.Mathlib.Omega.{arith}
use lib.Dec.{eqb, leb, eqb-suc-zero}
use Rattle.model.proofs.Laws.Distance.{least-none}
use Rattle.model.proofs.Laws.Location.{edge-distance}
use Rattle.model.proofs.Laws.Within.{within-least, within-bounded, bounded-plus-left, bounded-plus-right}
use Rattle.model.specs.Distance.{Distance, metres, none, plus, least_of, within, bounded, code, difference}
use Rattle.model.specs.Events.{Event, IsEvent, event_location}
use Rattle.model.specs.Location.{Side, at_first, at_second, end_node, gap, reaches, edge_ends, route, routes, along_edge_of, edge_distance}
use Rattle.model.specs.Network.{Network, EndsAreNodes, size}
use Rattle.model.specs.NodeDistance.{node_distance_of, bounded_distance}
use Rattle.model.specs.PairCount.{event_distance}

-- some route reaches: d gives the distance for each choice of sides
abbrev pub some-route : ℕ → (Side → Side → Distance) → ℕ → ℕ → ℕ → ℕ → Bool
some-route t d p x q y =
    (reaches t (gap p at_first x) (d at_first at_first) (gap q at_first y) || reaches t (gap p at_first x) (d at_first at_second) (gap q at_second y)) ||
    (reaches t (gap p at_second x) (d at_second at_first) (gap q at_first y) || reaches t (gap p at_second x) (d at_second at_second) (gap q at_second y))

-- the node distances between the ends of two edges
abbrev pub between : Network → ℕ → ℕ → Side → Side → Distance
between net i j s s' = node_distance_of net (end_node net i s) (end_node net j s')

stretch-within : (b : Bool) (n t : ℕ) → within (cond b (metres n) none) t ≡ b && leb n t
unfolding within
stretch-within true n t = refl
stretch-within false n t = refl

-- within the threshold exactly when some route reaches, or on one edge the stretch does
pub within-routes : (net : Network) (i x j y t : ℕ) → within (edge_distance net i x j y) t ≡ some-route t (between net i j) (size net i) x (size net j) y || (eqb i j && leb (difference x y) t)
unfolding edge_distance along_edge_of routes edge_ends least_of route reaches end_node gap
within-routes net i x j y t = simp (least-none, within-least, stretch-within)

-- a distance bounded by no less than the threshold reaches as far
pub reaches-bounded : (t bound a : ℕ) (d : Distance) (b : ℕ) → t ≤ bound → reaches t a (bounded bound d) b ≡ reaches t a d b
unfolding reaches
reaches-bounded t bound a d b h =
    sym (within-bounded (plus (plus (metres a) (bounded bound d)) (metres b)) h)
    ∙ ap (λ (e : Distance). within e t) (sym (bounded-plus-left bound (plus (metres a) (bounded bound d)) (metres b)) ∙ ap (λ (e : Distance). bounded bound (plus e (metres b))) (bounded-plus-right bound (metres a) d) ∙ bounded-plus-left bound (plus (metres a) d) (metres b))
    ∙ within-bounded (plus (plus (metres a) d) (metres b)) h

-- the same read off a code
pub reaches-code : (t a : ℕ) (d : Distance) (b : ℕ) → reaches t a d b ≡ not (eqb (code d) 0) && leb (a + pred (code d) + b) t
unfolding reaches plus within code
reaches-code t a none b = refl
reaches-code t a (metres n) b = rw (eqb-suc-zero n)

-- two events of the network lie within the threshold exactly when some route between their edges' ends reaches,
-- by distances bounded by no less than the threshold, or on one edge the stretch does
pub event-within : (net : Network) → EndsAreNodes net → (e f : Event) → IsEvent net e → IsEvent net f → (t bound : ℕ) → t ≤ bound → within (event_distance net e f) t ≡ some-route t (λ s s'. bounded_distance net bound (end_node net (pred e.edge) s) (end_node net (pred f.edge) s')) (size net (pred e.edge)) e.offset (size net (pred f.edge)) f.offset || (eqb (pred e.edge) (pred f.edge) && leb (difference e.offset f.offset) t)
unfolding event_distance event_location bounded_distance
event-within net ends e f p q t bound h =
    ap (λ (d : Distance). within d t) (sym (edge-distance net ends (pred e.edge) e.offset (pred f.edge) f.offset (omega (arith, p.from_one, p.to_edges)) (omega (arith, q.from_one, q.to_edges)) p.on_edge q.on_edge))
    ∙ within-routes net (pred e.edge) e.offset (pred f.edge) f.offset t
    ∙ sym (simp (reaches-bounded t bound))
