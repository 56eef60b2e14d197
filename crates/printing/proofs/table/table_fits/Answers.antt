-- The line of names fits, and the rows in the room behind it.
use mathlib.Core.Path.{◌∙◌}
use borrow.Author.Tests.{lt-leb}
use Rattle.printing.proofs.Laws.Verdict.{rows-decide, no-names}
use Rattle.printing.proofs.table.table_fits.Goals as goal

pub returns-then-room-ge-NAMES : goal.returns-then-room-ge-NAMES
returns-then-room-ge-NAMES c = c.rows_fit.ensures ∙ rows-decide _ _ _ _ _ _ c.if-room-ge-NAMES.true

pub returns-else-room-ge-NAMES : goal.returns-else-room-ge-NAMES
returns-else-room-ge-NAMES c = lt-leb _ _ c.if-room-ge-NAMES.false ∙ no-names _ _ _ _ _ _ c.if-room-ge-NAMES.false
