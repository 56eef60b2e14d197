-- `check_table`: the tests of the definition, in its order.
use mathlib.Core.Path.{sym, ◌∙◌}
use borrow.Author.Tests.{leb-true}
use Rattle.model.proofs.Laws.CheckParts.{room-accepts}
use Rattle.model.proofs.Laws.Refusal.{or-else-next, or-else-refused}
use Rattle.printing.specs.Answers.{table_bytes_check}
use Rattle.printing.proofs.Laws.Verdict.{room-refused}
use Rattle.printing.proofs.table.check_table.Goals as goal

pub returns-then-not-table_fits : goal.returns-then-not-table_fits
unfolding table_bytes_check
returns-then-not-table_fits c = sym (or-else-next _ (sym c.check_columns.ensures ∙ c.in_ok-check_columns.was) ∙ or-else-refused _ (room-refused _ _ (sym c.table_fits.ensures ∙ c.if-not-table_fits.true)))

pub returns : goal.returns
unfolding table_bytes_check
returns c = c.check_thresholds.ensures ∙
    sym (or-else-next _ (sym c.check_columns.ensures ∙ c.in_ok-check_columns.was) ∙ or-else-next _ (room-accepts _ _ (leb-true _ _ (sym c.table_fits.ensures ∙ c.if-not-table_fits.false))))
