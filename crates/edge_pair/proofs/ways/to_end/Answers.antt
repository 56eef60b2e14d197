-- The lesser of two sums, neither of which wraps.
use Rattle.std.proofs.Common.{◌≤◌, arith}
use Rattle.edge_pair.proofs.Laws.Ways.{way-to}
use Rattle.edge_pair.specs.Edges.{side_of}
use Rattle.edge_pair.specs.Ways.{far, to_end_of}
use Rattle.edge_pair.proofs.ways.to_end.Goals.{After-way-by_first, After-way-by_second}
use Rattle.edge_pair.proofs.ways.to_end.Goals as goal

-- neither way has more metres than stand for none
by_first : (c : After-way-by_first) → c.way-by_first.result ≤ far
by_first c = omega (arith, c.way-by_first.ensures, way-to c.code_between.result (omega arith))

by-second : (c : After-way-by_second) → c.way-by_second.result ≤ far
by-second c = omega (arith, c.way-by_second.ensures, way-to c.code_between-2.result (omega arith))

pub overflow_add-x : goal.overflow_add-x
overflow_add-x c = omega (arith, by_first (goal.at.overflow_add-x c).After-way-by_first)

pub overflow_add-rest : goal.overflow_add-rest
overflow_add-rest c = omega (arith, (by-second (goal.at.overflow_add-rest c).After-way-by_second), c.saturating_sub-rest.ensures)

pub returns : goal.returns
unfolding to_end_of side_of
returns c = (cc, omega (arith, c.min.ensures, (by_first (goal.at.returns c).After-way-by_first), (by-second (goal.at.returns c).After-way-by_second)))
