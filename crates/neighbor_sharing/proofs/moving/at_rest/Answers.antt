-- Falling cursors rest at the number of events, rising ones at 0.
use mathlib.Core.Path.{refl}
use Rattle.sweep.specs.Cursors.{rest}
use Rattle.neighbor_sharing.specs.Stands.{stands_at_rest}
use Rattle.neighbor_sharing.proofs.moving.at_rest.Goals as goal

pub returns : goal.returns
unfolding stands_at_rest rest
returns c = refl
