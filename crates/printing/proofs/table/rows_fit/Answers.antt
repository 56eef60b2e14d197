-- `rows_fit` takes each row's size off the room that is left.
use Rattle.printing.proofs.Laws.Rows.{no-fit, fit-more, all_fit}
use Rattle.printing.proofs.table.rows_fit.Goals as goal

pub returns-then-left-size : goal.returns-then-left-size
returns-then-left-size c = no-fit _ _ _ _ _ c.loop-k.invariant c.loop-k-test.true
    (rw (c.value_at.ensures, c.extremes_at-extremes.ensures) at c.row_size-size.ensures) c.if-left-size.true

pub loop-k-preserved : goal.loop-k-preserved
loop-k-preserved c = fit-more _ _ _ _ _ c.loop-k.invariant c.loop-k-test.true
    (rw (c.value_at.ensures, c.extremes_at-extremes.ensures) at c.row_size-size.ensures) c.if-left-size.false

pub returns : goal.returns
returns c = all_fit _ _ _ _ _ c.loop-k.invariant c.loop-k-test.false
