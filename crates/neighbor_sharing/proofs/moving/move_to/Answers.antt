-- Each of the six by itself.
use mathlib.Core.Path.{refl}
use Rattle.neighbor_sharing.specs.Stands.{stands_moved}
use Rattle.neighbor_sharing.proofs.moving.move_to.Goals as goal

pub returns : goal.returns
unfolding stands_moved
returns c = rw (← c.below-lower.ensures, ← c.up_to-upper.ensures, ← c.route_to-ff.ensures, ← c.route_to-fs.ensures, ← c.route_to-sf.ensures, ← c.route_to-ss.ensures, ← c.window_to-low.ensures, ← c.window_to-high.ensures) refl
