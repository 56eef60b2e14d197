-- The offsets so far that are within the limit are counted.
use Prim.Native.Nat.{◌≤◌}
use mathlib.Core.Path.{◌≡◌}
use lib.Dec.{leb}
use lib.ListN.{take}
use Rattle.model.specs.Counting.{count_if}
use Rattle.range_query.specs.Metres.{metres_between}
use Rattle.range_query.proofs.within.count_row.Given as goal

abbrev pub invariant-loop-y : goal.invariant-loop-y
invariant-loop-y l =
    (l.count ≡ count_if (λ y. leb (metres_between l.edges l.x y) l.limit) (take l.y-index l.ys)) × (l.count ≤ l.y-index)
