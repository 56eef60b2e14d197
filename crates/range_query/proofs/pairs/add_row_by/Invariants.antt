-- The offsets so far are counted, each from its own place on.
use Prim.Native.Nat.{ℕ, ◌*◌, ◌<◌}
use mathlib.Core.Path.{◌≡◌}
use lib.Dec.{leb}
use lib.ListN.{take}
use Rattle.model.specs.Counting.{count_if}
use Rattle.model.specs.Limits.{max_thresholds}
use Rattle.edge_pair.specs.Totals.{Added}
use Rattle.range_query.proofs.pairs.add_row_by.Given as goal

abbrev pub invariant-loop-y : goal.invariant-loop-y
invariant-loop-y g l =
    (metres found : ℕ → ℕ) → ((y r : ℕ) → y < 4294967296 → goal.M-post g l.metres_to y r → r ≡ metres y) → ((d r : ℕ) → d < 18446744073709551616 → goal.P-post g l.place_of d r → r ≡ found d) → Added max_thresholds (λ k. l.many * count_if (λ y. leb (found (metres y)) k) (take l.y-index l.ys)) l.initial.totals l.totals
