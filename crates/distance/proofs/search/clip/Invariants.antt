-- `clip` sweeps the list with `clipped`.
use Rattle.distance.specs.Search.{Clipped}
use Rattle.distance.proofs.Lists.{Swept}
use Rattle.distance.proofs.search.clip.Given as goal

abbrev pub invariant-loop-entry : goal.invariant-loop-entry
invariant-loop-entry l = Swept (Clipped l.bound) l.initial.dist l.dist l.entry-index
