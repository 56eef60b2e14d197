-- `value_of` answers what its bytes stand for: the loop reads one digit more each time, and the limit stops it early.
use Rattle.text.proofs.Laws.Numbers.{ReadSoFar}
use Rattle.text.proofs.number.value_of.Given as goal

abbrev pub invariant-loop-byte : goal.invariant-loop-byte
invariant-loop-byte l = ReadSoFar l.field l.value l.byte-index
