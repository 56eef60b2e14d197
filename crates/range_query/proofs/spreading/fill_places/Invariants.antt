-- The cells so far hold the buckets of their metres.
use Rattle.range_query.proofs.Laws.Placing.{Placing}
use Rattle.range_query.proofs.spreading.fill_places.Given as goal

abbrev pub invariant-loop-k : goal.invariant-loop-k
invariant-loop-k l = Placing l.initial.ladder l.c l.k l.ladder
