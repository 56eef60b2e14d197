-- An entry of 0 is no way; any other is one more than the metres.
use Rattle.std.proofs.Common.{sym}
use Rattle.edge_pair.proofs.Laws.Ways.{way-none, way-some}
use Rattle.edge_pair.proofs.ways.way.Goals as goal

pub returns-then-code-eq0 : goal.returns-then-code-eq0
returns-then-code-eq0 c = sym (way-none _ c.if-code-eq0.true)

pub returns-else-code-eq0 : goal.returns-else-code-eq0
returns-else-code-eq0 c = sym (way-some _ c.if-code-eq0.false)
