-- The cells so far are right, and every step before the one in hand is below the next cell.
use Rattle.range_query.proofs.Laws.Filling.{Filling}
use Rattle.range_query.proofs.spreading.fill_cells.Given as goal

abbrev pub invariant-loop-k : goal.invariant-loop-k
invariant-loop-k l = Filling l.last l.initial.ladder l.c l.start l.k l.ladder
