-- The metres of the ways between two edges. Where there is no way they are beyond every threshold.
use Rattle.std.specs.Prelude.{ℕ, pred, ◌+◌, ◌-◌, ◌/◌, min, cond, ◌==◌}
use Rattle.model.specs.Location.{Side, at_first, at_second}
use Rattle.edge_pair.specs.Edges.{code_between_of}
use Rattle.edge_pair.specs.declared.edges.EdgePair.{EdgePair}

-- what stands for no way: far above every threshold
abbrev pub far : ℕ
far = 1099511627776

-- the metres that a table entry gives, which is one more, and 0 for none
unfoldable pub way : ℕ → ℕ
way code = cond (code == 0) far (pred code)

-- the metres of the shortest way from the offset x of the first edge to an end of the second
unfoldable pub to_end_of : EdgePair → Side → ℕ → ℕ
to_end_of w s' x = min (x + way (code_between_of w at_first s')) ((w.length1 - x) + way (code_between_of w at_second s'))

-- that of the shortest route between two edges, than which no place of the one is nearer to one of the other; 0 on one edge
unfoldable pub shortest_route_of : EdgePair → ℕ
shortest_route_of w = cond w.same 0 (min (min (way w.ff) (way w.fs)) (min (way w.sf) (way w.ss)))

-- an upper bound of the distances of a place of the one and a place of the other: half of two opposite routes, the lesser of the two sums
unfoldable pub greatest_distance_of : EdgePair → ℕ
greatest_distance_of w = (min (way w.ff + way w.ss) (way w.fs + way w.sf) + w.length1 + w.length2) / 2
