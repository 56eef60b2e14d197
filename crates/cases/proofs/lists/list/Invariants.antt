-- The lists in front are passed one by one.
use Rattle.cases.proofs.Laws.{Passed}
use Rattle.cases.proofs.lists.list.Given as goal

abbrev pub invariant-loop : goal.invariant-loop
invariant-loop l = Passed l.lists l.number l.at l.counter
