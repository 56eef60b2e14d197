use lib.Dec.{eqb}
use Rattle.model.proofs.Laws.Refusal.{Scanned}
use Rattle.model.specs.Events.{set_size, greatest_set_of}
use Rattle.model.specs.declared.refusal.Fault.TheVariants.{UnequalSets}
use Rattle.validate.proofs.sets.check_equal_sets.Given as goal

abbrev pub invariant-loop-s : goal.invariant-loop-s
invariant-loop-s l = Scanned UnequalSets (λ s. eqb (set_size l.sets s) (set_size l.sets 0)) 1 (greatest_set_of l.sets) l.s
