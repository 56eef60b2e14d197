use Rattle.validate.proofs.SetSizes.{Counted}
use Rattle.validate.proofs.sets.count_sets.Given as goal

abbrev pub invariant-loop-set : goal.invariant-loop-set
invariant-loop-set l = Counted l.sets l.sizes l.set-index
