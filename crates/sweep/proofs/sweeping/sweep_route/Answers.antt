-- The part of a route, by its code.
use native.Mathlib.Omega.{arith}
use Rattle.sweep.proofs.Laws.Marks.{route-part}
use Rattle.sweep.proofs.sweeping.sweep_route.Goals as goal

pub returns : goal.returns
returns c = route-part _ _ _ _ _ _ _ _ _ _ _ _ c.code_between-code.ensures c.route-cursor.ensures (omega arith) c.requires.first_laid (c.sweep_part.ensures _ _ c.then_some-found.ensures)
