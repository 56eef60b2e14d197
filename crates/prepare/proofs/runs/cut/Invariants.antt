-- Each turn the run goes on or ends.
use Prim.Native.Nat.{suc}
use Rattle.prepare.specs.Prepared.{KeptFrom}
use Rattle.prepare.proofs.Laws.Cuts.{CutSoFar}
use Rattle.prepare.proofs.runs.cut.Given as goal

abbrev pub invariant-loop-k : goal.invariant-loop-k
invariant-loop-k l = CutSoFar l.edges l.initial.bounds l.runs l.to l.bounds l.r l.k × KeptFrom (suc l.r) l.initial.bounds l.bounds
