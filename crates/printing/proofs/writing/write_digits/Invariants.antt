-- `write_digits` writes the last digit of what is left each time.
use Rattle.text.proofs.Laws.Digits.{Filling}
use Rattle.printing.proofs.writing.write_digits.Given as goal

abbrev pub invariant-loop-i : goal.invariant-loop-i
invariant-loop-i l = Filling l.value l.initial.out l.out l.left l.i
