-- The numbers of the thresholds so far have been added, the last of them to all totals that follow.
use mathlib.Core.Path.{◌≡◌}
use lib.ListN.{length}
use Rattle.count_augmentation.specs.Thresholds.{Spread}
use Rattle.count_augmentation.proofs.Laws.Thresholds.{Adding}
use Rattle.count_augmentation.proofs.pairs.add_between.Given as goal

abbrev pub invariant-loop-k : goal.invariant-loop-k
invariant-loop-k l =
    (length l.totals ≡ length l.initial.totals)
    × (Spread l.edges l.thresholds l.x l.ys l.near_first l.near_second l.from l.to → Adding l.edges l.thresholds l.x l.ys l.near_first l.near_second l.events l.from l.to l.initial.totals l.k l.last l.totals)
