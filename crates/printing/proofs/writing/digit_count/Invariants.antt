-- `digit_count`: one digit more each time, until one digit is left.
use Rattle.text.proofs.Laws.Digits.{Counting}
use Rattle.printing.proofs.writing.digit_count.Given as goal

abbrev pub invariant-loop-left : goal.invariant-loop-left
invariant-loop-left l = Counting l.value l.left l.count

abbrev pub decreases-loop-left : goal.decreases-loop-left
decreases-loop-left l = l.left
