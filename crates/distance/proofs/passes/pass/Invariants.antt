-- `pass`: proofs/Relaxing has what it keeps.
use Rattle.model.specs.Network.{network_of}
use Rattle.distance.proofs.Relaxing.{Passing}
use Rattle.distance.proofs.passes.pass.Given as goal

abbrev pub invariant-loop-i : goal.invariant-loop-i
invariant-loop-i l = Passing (network_of l.network) l.source l.i l.fell l.dist
