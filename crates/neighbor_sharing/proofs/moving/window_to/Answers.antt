-- By whether the edges are one.
use mathlib.Core.Path.{refl}
use Rattle.neighbor_sharing.proofs.moving.window_to.Goals as goal

pub returns-then-not-same : goal.returns-then-not-same
returns-then-not-same c = rw (c.if-not-same.true) refl

pub returns : goal.returns
returns c = rw (c.if-not-same.false) c.advance.ensures
