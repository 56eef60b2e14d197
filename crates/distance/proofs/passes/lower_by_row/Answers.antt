-- `lower_by_row`: proofs/Relaxing has why the row's entry is that of a walk.
use native.Mathlib.Numerals.{add-one}
use native.Mathlib.Omega.{arith}
use Rattle.distance.proofs.Relaxing.{by-earlier-row}
use Rattle.distance.proofs.Tables.{earlier-entry}
use Rattle.distance.proofs.passes.lower_by_row.Goals as goal

pub offset_bounds-wanted-y : goal.offset_bounds-wanted-y
offset_bounds-wanted-y c = omega (arith, earlier-entry c.requires.0 c.requires.2)

pub bounds-wanted-y : goal.bounds-wanted-y
bounds-wanted-y c = (earlier-entry c.requires.0 c.requires.2).in-wanted

pub returns-then-wanted-y-eq0 : goal.returns-then-wanted-y-eq0
returns-then-wanted-y-eq0 c = c.requires.1

pub overflow_mul-y : goal.overflow_mul-y
overflow_mul-y c = omega (arith, earlier-entry c.requires.0 c.requires.2)

pub overflow_add-y : goal.overflow_add-y
overflow_add-y c = omega (arith, earlier-entry c.requires.0 c.requires.2)

pub offset_bounds-rows-y : goal.offset_bounds-rows-y
offset_bounds-rows-y c = omega (arith, earlier-entry c.requires.0 c.requires.2)

pub bounds-rows-y : goal.bounds-rows-y
bounds-rows-y c = (earlier-entry c.requires.0 c.requires.2).inside

pub overflow_add-y-2 : goal.overflow_add-y-2
overflow_add-y-2 c = omega (arith, earlier-entry c.requires.0 c.requires.2)

pub lower-requires : goal.lower-requires
lower-requires c = omega (arith, earlier-entry c.requires.0 c.requires.2, c.requires.1.room)

pub returns : goal.returns
returns c = rw (c.lower.ensures.0, add-one) (by-earlier-row c.requires.0 c.requires.1 c.requires.2 c.if-wanted-y-eq0.false c.known_entry-entry.ensures)
