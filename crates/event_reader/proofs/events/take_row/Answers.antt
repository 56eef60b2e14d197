use Rattle.std.proofs.Common.{◌≡◌, Err, rules}
use Rattle.event_reader.specs.Steps.{rows_after}
use Rattle.event_reader.proofs.RowSteps.{row-refused, row_room, row-stored}
use native.Mathlib.Omega.{arith}
use Rattle.event_reader.proofs.events.take_row.Goals as goal

pub returns-in_err-check_row : goal.returns-in_err-check_row
unfolding rows_after
returns-in_err-check_row c =
    let told : c.from_residual.result ≡ Err c.in_err-check_row.field-0.0 = search rules in
    rw told (row-refused c.requires.0 c.requires.1 c.check_row.ensures c.in_err-check_row.was)

pub bounds-sets-count : goal.bounds-sets-count
bounds-sets-count c = omega (arith, row_room c.requires.0 c.requires.1 c.check_row.ensures c.in_ok-check_row.was, c.requires.1.one)

pub bounds-edges-count : goal.bounds-edges-count
bounds-edges-count c = omega (arith, row_room c.requires.0 c.requires.1 c.check_row.ensures c.in_ok-check_row.was, c.requires.1.two)

pub bounds-offsets-count : goal.bounds-offsets-count
bounds-offsets-count c = omega (arith, row_room c.requires.0 c.requires.1 c.check_row.ensures c.in_ok-check_row.was, c.requires.1.three)

pub returns : goal.returns
returns c = row-stored c.requires.0 c.requires.1 c.check_row.ensures c.in_ok-check_row.was
