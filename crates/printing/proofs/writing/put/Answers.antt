-- `put` copies one byte each time.
use Rattle.printing.proofs.Laws.Writing.{copy_start, copy_more, copied}
use Rattle.printing.proofs.writing.put.Goals as goal

pub loop-i-init : goal.loop-i-init
loop-i-init c = copy_start c.requires

pub loop-i-preserved : goal.loop-i-preserved
loop-i-preserved c = copy_more c.loop-i.invariant c.loop-i-test.true

pub returns : goal.returns
returns c = copied c.loop-i.invariant c.loop-i-test.false
