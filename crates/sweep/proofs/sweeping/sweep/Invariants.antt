-- The invariant is that of the turns so far; each turn is one step of it.
use Rattle.sweep.proofs.Laws.Step.{Swept_to}
use Rattle.sweep.proofs.sweeping.sweep.Given as goal

abbrev pub invariant-loop-i : goal.invariant-loop-i
invariant-loop-i l = Swept_to l.cursor l.long l.xs l.ys l.i l.position l.moves l.positions
