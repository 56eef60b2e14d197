-- What is looked up for the events passed has been added.
use mathlib.Core.Path.{◌≡◌}
use Prim.Native.Nat.{◌-◌, ◌≤◌}
use lib.ListN.{length, get_or}
use Rattle.model.specs.Counting.{sum_below}
use Rattle.edge_pair.specs.Offsets.{Ordered}
use Rattle.edge_pair.specs.Totals.{Added}
use Rattle.count_augmentation.specs.LookUp.{looked_up_by}
use Rattle.count_augmentation.proofs.pairs.add_pairs.Given as goal

abbrev pub invariant-loop-i : goal.invariant-loop-i
invariant-loop-i l =
    (l.i ≤ length l.xs)
    × (length l.totals ≡ length l.initial.totals)
    × (Ordered l.thresholds → Added (length l.thresholds) (λ k. sum_below l.i (λ j. looked_up_by l.edges (get_or l.thresholds k 0) (get_or l.xs j 0) l.ys l.near_first l.near_second)) l.initial.totals l.totals)

abbrev pub decreases-loop-i : goal.decreases-loop-i
decreases-loop-i l = length l.xs - l.i
