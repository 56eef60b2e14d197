-- The fields as defined, falling or rising.
use native.Mathlib.Omega.{arith}
use Rattle.edge_pair.proofs.Laws.Ways.{way-to}
use Rattle.sweep.specs.Moving.{route_cursor}
use Rattle.sweep.proofs.cursor.route.Goals as goal

pub overflow_add-minus : goal.overflow_add-minus
overflow_add-minus c = omega (arith, c.way-metres.ensures, way-to c.args.code (omega arith))

pub returns-then-falling : goal.returns-then-falling
unfolding route_cursor
returns-then-falling c = simp (c.if-falling.true, c.way-metres.ensures)

pub returns-else-falling : goal.returns-else-falling
unfolding route_cursor
returns-else-falling c = simp (c.if-falling.false, c.way-metres.ensures)
