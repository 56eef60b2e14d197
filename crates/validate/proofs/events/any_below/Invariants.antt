use mathlib.Core.Bool.{false}
use mathlib.Core.Path.{◌≡◌}
use Prim.Native.Nat.{ℕ, pred, ◌≤◌, ◌<◌}
use lib.ListN.{get_or}
use Rattle.model.specs.Events.{event, before}
use Rattle.validate.proofs.events.any_below.Given as goal

abbrev pub invariant-loop-k : goal.invariant-loop-k
invariant-loop-k l =
    l.below ≡ false → (k : ℕ) → 1 ≤ k → k < l.k → before (event (get_or l.edges k 0) (get_or l.offsets k 0)) (event (get_or l.edges (pred k) 0) (get_or l.offsets (pred k) 0)) ≡ false
