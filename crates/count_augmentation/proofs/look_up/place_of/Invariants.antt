-- What the places left come to is the place looked for.
use mathlib.Core.Path.{◌≡◌}
use Prim.Native.Nat.{◌+◌, ◌≤◌}
use lib.ListN.{length}
use Rattle.count_augmentation.specs.LookUp.{place_among_of, place_of}
use Rattle.count_augmentation.proofs.look_up.place_of.Given as goal

abbrev pub invariant-loop-left : goal.invariant-loop-left
invariant-loop-left l =
    (l.low + l.left ≤ length l.offsets) × (place_among_of l.offsets l.limit l.low l.left ≡ place_of l.offsets l.limit)

abbrev pub decreases-loop-left : goal.decreases-loop-left
decreases-loop-left l = l.left
