-- One up is the definition's own step.
use mathlib.Core.Path.{◌≡◌}
use Prim.Native.Nat.{◌-◌}
use lib.ListN.{length}
use Rattle.sweep.specs.Moving.{is_within_of, risen_from}
use Rattle.edge_pair.specs.Edges.{side_of}
use Rattle.sweep.proofs.cursor.rise.Given as goal

abbrev pub invariant-loop-k : goal.invariant-loop-k
invariant-loop-k l =
    risen_from (is_within_of l.long (side_of l.first) l.reach l.ys) (length l.ys - l.k) l.k ≡ risen_from (is_within_of l.long (side_of l.first) l.reach l.ys) (length l.ys - l.from) l.from

abbrev pub decreases-loop-k : goal.decreases-loop-k
decreases-loop-k l = length l.ys - l.k
