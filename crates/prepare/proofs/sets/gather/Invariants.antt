-- The values gathered, and those still to come, are all of the set's.
use Rattle.prepare.specs.Prepared.{KeptFrom}
use Rattle.prepare.proofs.Laws.Gathering.{Gathering}
use Rattle.prepare.proofs.sets.gather.Given as goal

abbrev pub invariant-loop-k : goal.invariant-loop-k
invariant-loop-k l = Gathering l.sets l.values l.set l.n l.k l.out × KeptFrom l.n l.initial.out l.out
