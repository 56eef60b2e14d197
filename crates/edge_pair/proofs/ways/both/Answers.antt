-- The sum of two ways.
use Rattle.std.proofs.Common.{◌+◌, ◌≤◌, arith}
use Rattle.edge_pair.proofs.Laws.Ways.{way-to}
use Rattle.edge_pair.specs.Ways.{far}
use Rattle.edge_pair.proofs.ways.both.Goals.{After-way-2}
use Rattle.edge_pair.proofs.ways.both.Goals as goal

-- neither has more metres than stand for none
small : (c : After-way-2) → c.way.result + c.way-2.result ≤ far + far
small c = omega (arith, way-to c.args.a (omega arith), way-to c.args.b (omega arith), c.way.ensures, c.way-2.ensures)

pub overflow_add-result : goal.overflow_add-result
overflow_add-result c = omega (arith, small c)

pub returns : goal.returns
returns c = (omega (arith, c.way.ensures, c.way-2.ensures), (small c))
