-- The count so far is that of the numbers passed.
use mathlib.Core.Path.{◌≡◌}
use lib.Dec.{ltb}
use lib.ListN.{take}
use Rattle.std.specs.List.{count_by}
use Rattle.layout.proofs.stretch.count_below.Given as goal

abbrev pub invariant-loop-n : goal.invariant-loop-n
invariant-loop-n l = l.count ≡ count_by (λ t. ltb t l.limit) (take l.n-index l.numbers)
