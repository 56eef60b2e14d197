-- Two edges: what the codes between their ends stand for.
use Rattle.std.specs.Prelude.{ℕ, Bool, true, false}
use Rattle.model.specs.Distance.{Distance, decode}
use Rattle.model.specs.Location.{Side, at_first, at_second}
use Rattle.edge_pair.specs.declared.edges.EdgePair.{EdgePair}

-- the side of an edge that a flag of the code names
unfoldable pub side_of : Bool → Side
side_of true = at_first
side_of false = at_second

-- the code between an end of the first edge and one of the second, and the distance
unfoldable pub code_between_of : EdgePair → Side → Side → ℕ
code_between_of w at_first at_first = w.ff
code_between_of w at_first at_second = w.fs
code_between_of w at_second at_first = w.sf
code_between_of w at_second at_second = w.ss

unfoldable pub distance_between : EdgePair → Side → Side → Distance
distance_between w s s' = decode (code_between_of w s s')
