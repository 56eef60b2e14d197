-- A quotient in place of a product, which might not fit.
use Rattle.sweep.proofs.Laws.AnsweringCheck.{lists-differ, room-short, room-enough}
use native.Mathlib.Omega.{arith}
use Rattle.sweep.proofs.asked.has_rooms.Goals as goal

pub returns-then-edges-offsets : goal.returns-then-edges-offsets
returns-then-edges-offsets c = lists-differ _ _ _ _ _ c.if-edges-offsets.true

pub returns-then-positions-count : goal.returns-then-positions-count
returns-then-positions-count c = room-short _ _ _ _ _ _ c.if-edges-offsets.false c.count_on-count.ensures (omega arith)

pub returns : goal.returns
returns c = room-enough _ _ _ _ _ _ c.if-edges-offsets.false c.count_on-count.ensures (omega arith)
