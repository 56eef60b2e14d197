-- `spanned`: see proofs/Laws/Columns.
use Rattle.table.proofs.Laws.Columns.{spanned-none, spanned-all}
use Rattle.table.proofs.checks.spanned.Goals as goal

pub returns-then-greatest-eq0 : goal.returns-then-greatest-eq0
returns-then-greatest-eq0 c = spanned-none _ _ c.if-greatest-eq0.true

pub returns-else-greatest-eq0 : goal.returns-else-greatest-eq0
returns-else-greatest-eq0 c = spanned-all _ _ c.if-greatest-eq0.false
