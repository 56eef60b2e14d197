-- `pair_at`: at each place that was passed one of the two bytes is another one.
use Rattle.text.specs.Places.{pair_at}
use Rattle.text.proofs.Laws.Places.{Passed}
use Rattle.text.proofs.search.pair_at.Given as goal

abbrev pub invariant-loop-i : goal.invariant-loop-i
invariant-loop-i l = Passed (pair_at l.x l.y) l.bytes l.i
