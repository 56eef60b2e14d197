-- One pass from the back: the places from k on are filled, and the number at hand is that of place k.
use mathlib.Core.Path.{◌≡◌}
use Prim.Native.Nat.{ℕ, ◌≤◌, ◌<◌}
use lib.ListN.{length, get_or}
use Rattle.edge_pair.specs.Offsets.{Ordered}
use Rattle.count_augmentation.specs.Storing.{at_most}
use Rattle.count_augmentation.proofs.storing.store_first.Given as goal

abbrev pub invariant-loop-k : goal.invariant-loop-k
invariant-loop-k l =
    (Ordered l.offsets → (j : ℕ) → l.k ≤ j → j < length l.offsets → get_or l.near j 0 ≡ at_most l.offsets (get_or l.offsets j 0))
    × (Ordered l.offsets → l.k < length l.offsets → l.number ≡ at_most l.offsets (get_or l.offsets l.k 0))
