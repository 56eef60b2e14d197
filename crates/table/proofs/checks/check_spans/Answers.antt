-- The room that the comparison sets ask for.
use Rattle.table.specs.Table.{spans_check}
use Rattle.table.proofs.checks.check_spans.Goals as goal

pub returns : goal.returns
unfolding spans_check
returns c = cc
