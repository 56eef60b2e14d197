-- `start_passes`: the entries of the nodes of earlier rows are lowered one after the other.
use Prim.Native.Nat.{suc}
use Rattle.model.specs.Network.{network_of}
use Rattle.distance.specs.Passes.{Relaxable}
use Rattle.distance.proofs.passes.start_passes.Given as goal

abbrev pub invariant-loop-y : goal.invariant-loop-y
invariant-loop-y l = Relaxable (network_of l.network) (suc l.k) l.dist
