use Rattle.std.proofs.Common.{◌≡◌, refl, ◌∙◌, ◌+◌, Err, rules}
use native.Mathlib.Omega.{arith}
use Rattle.text.proofs.Laws.Lines.{csv-next}
use Rattle.reading.proofs.Mapped.{value-kept, error-mapped}
use Rattle.reading.proofs.Progress.{line-long, less-left}
use Rattle.threshold_reader.proofs.ThresholdRows.{rows-begin, row-taken, row-refused, rows_none, rows-some}
use Rattle.threshold_reader.proofs.thresholds.take_rows.Goals as goal

pub loop-at-init : goal.loop-at-init
loop-at-init c = (rows-begin _ _ (omega arith), refl)

pub slice_bounds-take_line-end : goal.slice_bounds-take_line-end
slice_bounds-take_line-end c = line-long c.loop-at.invariant.0.progress c.loop-at-test.true (csv-next c.csv_line-line.ensures)

pub returns-in_err-map_err : goal.returns-in_err-map_err
returns-in_err-map_err c =
    let told : c.from_residual.result ≡ Err c.in_err-map_err.field-0.0 = search rules in
    let mapped = error-mapped _ _ _ c.map_err.ensures.cases c.in_err-map_err.was in
    let placed : c.in_err-map_err.field-0.0 ≡ record { fault = mapped.0; place = c.loop-at.count + 2 } = search rules in
    rw (told, placed) (row-refused c.loop-at.invariant.0 c.loop-at-test.true (csv-next c.csv_line-line.ensures) c.take_line.ensures mapped.1)

pub overflow_add-at : goal.overflow_add-at
overflow_add-at c = omega (arith, (csv-next c.csv_line-line.ensures).inside)

pub loop-at-smaller : goal.loop-at-smaller
loop-at-smaller c = less-left c.loop-at.invariant.0.progress c.loop-at-test.true (csv-next c.csv_line-line.ensures)

pub loop-at-preserved : goal.loop-at-preserved
loop-at-preserved c = (row-taken c.loop-at.invariant.0 c.loop-at-test.true (csv-next c.csv_line-line.ensures) c.take_line.ensures (value-kept _ _ _ c.map_err.ensures.cases c.in_ok-map_err.was) c.take_line.auto.list, c.take_line.auto.list ∙ c.loop-at.invariant.1)

pub shape_of-list-then-count-eq0 : goal.shape_of-list-then-count-eq0
shape_of-list-then-count-eq0 c = c.loop-at.invariant.1

pub returns-then-count-eq0 : goal.returns-then-count-eq0
returns-then-count-eq0 c = rows_none c.loop-at.invariant.0 c.loop-at-test.false c.if-count-eq0.true

pub shape_of-list : goal.shape_of-list
shape_of-list c = c.loop-at.invariant.1

pub returns : goal.returns
returns c = rows-some c.loop-at.invariant.0 c.loop-at-test.false c.if-count-eq0.false
