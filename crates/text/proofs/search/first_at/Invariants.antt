-- `first_at`: each byte that was passed is another one.
use Rattle.text.specs.Places.{first_at}
use Rattle.text.proofs.Laws.Places.{Passed}
use Rattle.text.proofs.search.first_at.Given as goal

abbrev pub invariant-loop-i : goal.invariant-loop-i
invariant-loop-i l = Passed (first_at l.x) l.bytes l.i
