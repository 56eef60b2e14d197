-- `relax_all` makes passes until one lowers nothing.
use Rattle.model.specs.Network.{network_of}
use Rattle.distance.specs.Passes.{Relaxable}
use Rattle.distance.proofs.passes.relax_all.Given as goal

abbrev pub invariant-loop : goal.invariant-loop
invariant-loop l = Relaxable (network_of l.network) l.source l.dist
