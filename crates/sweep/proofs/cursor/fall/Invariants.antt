-- One down is the definition's own step.
use mathlib.Core.Path.{◌≡◌}
use Rattle.sweep.specs.Moving.{is_within_of, fallen_from}
use Rattle.edge_pair.specs.Edges.{side_of}
use Rattle.sweep.proofs.cursor.fall.Given as goal

abbrev pub invariant-loop-k : goal.invariant-loop-k
invariant-loop-k l =
    fallen_from (is_within_of l.long (side_of l.first) l.reach l.ys) l.k ≡ fallen_from (is_within_of l.long (side_of l.first) l.reach l.ys) l.from
