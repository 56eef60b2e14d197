-- `digit_count`: one digit more each time, until one digit is left.
use native.Mathlib.Omega.{arith}
use Rattle.text.proofs.Laws.Digits.{count-start, count-more, counted}
use Rattle.printing.proofs.writing.digit_count.Goals as goal

pub loop-left-init : goal.loop-left-init
loop-left-init c = count-start _ (omega arith)

pub loop-left-preserved : goal.loop-left-preserved
loop-left-preserved c = count-more _ _ _ c.loop-left.invariant c.loop-left-test.true

pub returns-clause-count : goal.returns-clause-count
returns-clause-count c = counted _ _ _ c.loop-left.invariant c.loop-left-test.false
