-- `put` copies one byte each time.
use Rattle.printing.proofs.Laws.Writing.{Copying}
use Rattle.printing.proofs.writing.put.Given as goal

abbrev pub invariant-loop-i : goal.invariant-loop-i
invariant-loop-i l = Copying l.initial.out l.at l.bytes l.out l.i
