use Rattle.std.proofs.Common.{◌≡◌, sym, ◌∙◌, ◌+◌, Err, rules}
use Rattle.text.proofs.Laws.Parallel.{level-kept}
use Rattle.reading.proofs.Mapped.{value-kept, error-mapped}
use Rattle.reading.proofs.Progress.{line-long, less-left}
use Rattle.event_reader.proofs.EventRows.{rows-begin, one-taken, one-refused, rows_end}
use Rattle.text.proofs.Laws.Lines.{csv-next}
use native.Mathlib.Omega.{arith}
use Rattle.event_reader.proofs.events.take_rows.Goals as goal

pub loop-at-init : goal.loop-at-init
loop-at-init c = rows-begin _ _ _ _ _ c.requires

pub slice_bounds-take_line-end : goal.slice_bounds-take_line-end
slice_bounds-take_line-end c = line-long c.loop-at.invariant.progress c.loop-at-test.true (csv-next c.csv_line-line.ensures)

pub take_line-requires : goal.take_line-requires
take_line-requires c = (c.loop-at.invariant.few, c.loop-at.invariant.level)

pub returns-in_err-map_err : goal.returns-in_err-map_err
returns-in_err-map_err c =
    let told : c.from_residual.result ≡ Err c.in_err-map_err.field-0.0 = search rules in
    let mapped = error-mapped _ _ _ c.map_err.ensures.cases c.in_err-map_err.was in
    let placed : c.in_err-map_err.field-0.0 ≡ record { fault = mapped.0; place = c.loop-at.count + 2 } = search rules in
    rw (told, placed) (one-refused c.loop-at.invariant c.loop-at-test.true (csv-next c.csv_line-line.ensures) c.take_line.ensures mapped.1)

pub overflow_add-at : goal.overflow_add-at
overflow_add-at c = omega (arith, (csv-next c.csv_line-line.ensures).inside)

pub overflow_add-count : goal.overflow_add-count
overflow_add-count c = omega (arith, c.loop-at.invariant.few)

pub loop-at-smaller : goal.loop-at-smaller
loop-at-smaller c = less-left c.loop-at.invariant.progress c.loop-at-test.true (csv-next c.csv_line-line.ensures)

pub loop-at-preserved : goal.loop-at-preserved
loop-at-preserved c = one-taken c.loop-at.invariant c.loop-at-test.true (csv-next c.csv_line-line.ensures) c.take_line.ensures (value-kept _ _ _ c.map_err.ensures.cases c.in_ok-map_err.was)
    (level-kept c.loop-at.invariant.level c.take_line.auto.sets c.take_line.auto.edges c.take_line.auto.offsets)

pub shape_of-sets : goal.shape_of-sets
shape_of-sets c = c.loop-at.invariant.level.one ∙ sym c.requires.one

pub shape_of-edges : goal.shape_of-edges
shape_of-edges c = c.loop-at.invariant.level.two ∙ sym c.requires.two

pub shape_of-offsets : goal.shape_of-offsets
shape_of-offsets c = c.loop-at.invariant.level.three ∙ sym c.requires.three

pub returns : goal.returns
returns c = rows_end c.loop-at.invariant c.loop-at-test.false
