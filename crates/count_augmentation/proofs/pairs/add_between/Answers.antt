-- The numbers of the thresholds so far have been added, the last of them to all totals that follow.
use mathlib.Core.Path.{◌≡◌, refl, ap, ◌∙◌}
use Prim.Native.Nat.{ℕ, ◌*◌}
use native.Mathlib.Nat.{mul-le-mul}
use native.Mathlib.Omega.{arith}
use lib.ListN.{get_or}
use Rattle.count_augmentation.specs.LookUp.{looked_part}
use Rattle.count_augmentation.proofs.Laws.Thresholds.{adding-begins, adding-next, adding-ends}
use Rattle.count_augmentation.proofs.pairs.add_between.Goals.{After-count_part-found}
use Rattle.count_augmentation.proofs.pairs.add_between.Goals as goal

-- what is looked up at the threshold at hand
found : (c : After-count_part-found) → c.count_part-found.result ≡ looked_part c.args.edges (get_or c.args.thresholds.now c.loop-k.k 0) c.args.x c.args.ys.now c.args.near_first.now c.args.near_second.now
found c = c.count_part-found.ensures.0 ∙ ap (λ (t : ℕ). looked_part c.args.edges t c.args.x c.args.ys.now c.args.near_first.now c.args.near_second.now) c.value_at-threshold.ensures

pub loop-k-init : goal.loop-k-init
loop-k-init c = (refl, λ at. adding-begins at _ _)

pub count_part-found-requires : goal.count_part-found-requires
count_part-found-requires c = (c.requires.0, c.requires.1)

pub overflow_mul-next : goal.overflow_mul-next
overflow_mul-next c = omega (arith, mul-le-mul {m₁ = c.count_part-found.result} {m₂ = 3 * 4294967295} c.requires.2 c.count_part-found.ensures.1)

pub loop-k-preserved : goal.loop-k-preserved
loop-k-preserved c = (
  c.change_from.ensures.same_length ∙ c.loop-k.invariant.0,
  λ at. adding-next at (c.loop-k.invariant.1 at) c.loop-k-test.true (found (goal.at.loop-k-preserved c).After-count_part-found) refl c.change_from.ensures,
)

pub overflow_mul-rest : goal.overflow_mul-rest
overflow_mul-rest c = omega (arith, mul-le-mul {m₁ = c.args.all} {m₂ = 4294967295} c.requires.2 (omega arith))

pub shape_of-totals : goal.shape_of-totals
shape_of-totals c = c.change_from-2.ensures.same_length ∙ c.loop-k.invariant.0

pub returns : goal.returns
returns c = λ at. adding-ends at (c.loop-k.invariant.1 at) c.loop-k-test.false c.requires.3 refl c.change_from-2.ensures
