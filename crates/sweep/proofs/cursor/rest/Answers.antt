-- Falling or rising.
use Rattle.sweep.specs.Cursors.{rest}
use Rattle.edge_pair.specs.Edges.{side_of}
use Rattle.sweep.specs.Sweeping.{resting}
use Rattle.sweep.proofs.cursor.rest.Goals as goal

pub returns-then-cursor : goal.returns-then-cursor
unfolding resting side_of rest
returns-then-cursor c = simp c.if-cursor.true

pub returns : goal.returns
unfolding resting side_of rest
returns c = simp c.if-cursor.false
