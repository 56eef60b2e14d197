-- One pass from the front: the places before k are filled, and the number at hand is that of the place before k.
use mathlib.Core.Path.{◌≡◌}
use Prim.Native.Nat.{ℕ, pred, ◌<◌}
use lib.ListN.{get_or}
use Rattle.edge_pair.specs.Offsets.{Ordered}
use Rattle.count_augmentation.specs.Storing.{at_least}
use Rattle.count_augmentation.proofs.storing.store_second.Given as goal

abbrev pub invariant-loop-k : goal.invariant-loop-k
invariant-loop-k l =
    (Ordered l.offsets → (j : ℕ) → j < l.k → get_or l.near j 0 ≡ at_least l.offsets (get_or l.offsets j 0))
    × (Ordered l.offsets → 0 < l.k → l.number ≡ at_least l.offsets (get_or l.offsets (pred l.k) 0))
