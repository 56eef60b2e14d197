-- What the places left come to is the place looked for.
use mathlib.Core.Path.{refl, ◌∙◌}
use native.Mathlib.Omega.{arith}
use Rattle.count_augmentation.specs.LookUp.{place_of}
use Rattle.count_augmentation.proofs.Laws.Halving.{among_next}
use Rattle.count_augmentation.proofs.look_up.place_of.Goals as goal

pub loop-left-init : goal.loop-left-init
unfolding place_of
loop-left-init c = (omega arith, refl)

pub halve-low-requires : goal.halve-low-requires
halve-low-requires c = (c.loop-left.invariant.0, omega (arith, c.loop-left-test.true))

pub loop-left-smaller : goal.loop-left-smaller
loop-left-smaller c = omega (arith, c.loop-left-test.true)

pub loop-left-preserved : goal.loop-left-preserved
loop-left-preserved c = (c.halve-low.ensures.1, among_next _ _ _ _ _ (omega (arith, c.loop-left-test.true)) c.halve-low.ensures.0 ∙ c.loop-left.invariant.1)

pub place_among-requires : goal.place_among-requires
place_among-requires c = (c.loop-left.invariant.0, omega (arith, c.loop-left-test.false))
