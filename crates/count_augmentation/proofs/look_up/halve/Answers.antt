-- Half of the places are left, whichever half that is.
use Prim.Native.Nat.{◌+◌, ◌/◌, ◌≤◌}
use mathlib.Core.Path.{refl, ap}
use lib.ListN.{length}
use Rattle.count_augmentation.proofs.Laws.Halving.{half-within}
use Rattle.count_augmentation.specs.LookUp.{half_way}
use native.Mathlib.Omega.{arith}
use Rattle.count_augmentation.proofs.look_up.halve.Goals.{After-passed}
use Rattle.count_augmentation.proofs.look_up.halve.Goals as goal

next : (c : After-passed) → (c.args.low + c.passed.result) + c.args.left / 2 ≤ length c.args.offsets.now
next c = half-within c.args.offsets.now c.args.limit c.args.low c.args.left _ _ c.requires.0 c.passed.ensures refl

pub overflow_add-result : goal.overflow_add-result
overflow_add-result c = omega (arith, next c)

pub returns : goal.returns
unfolding half_way
returns c = (ap (λ n. c.args.low + n) c.passed.ensures, (next c))
