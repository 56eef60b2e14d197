use mathlib.Core.Path.{refl, ap, ◌∙◌}
use Prim.Native.Nat.{◌+◌, ◌-◌}
use native.Mathlib.Omega.{arith}
use Rattle.perimeter.specs.Sight.{MetCounted}
use Rattle.perimeter.proofs.Offsets.{four-tests}
use Rattle.perimeter.proofs.edges.count_met.Goals.{After-first_met-n4}
use Rattle.perimeter.proofs.edges.count_met.Goals as goal

-- the count, at the last test
counted : (c : After-first_met-n4) → MetCounted c.args.s (c.first_met-n1.result + c.first_met-n2.result + c.first_met-n3.result + c.first_met-n4.result)
counted c =
    four-tests c.args.s
    c.left-by_end1.ensures
    (c.saturating_sub-by_end2.ensures ∙ ap (λ k. c.args.s.length - k) c.left.ensures)
    c.saturating_sub-before.ensures
    refl
    c.first_met-n1.ensures
    c.first_met-n2.ensures
    c.first_met-n3.ensures
    c.first_met-n4.ensures

pub overflow_add-result : goal.overflow_add-result
overflow_add-result c = omega (arith, (counted c).few)

pub overflow_add-result-2 : goal.overflow_add-result-2
overflow_add-result-2 c = omega (arith, (counted c).few)

pub overflow_add-result-3 : goal.overflow_add-result-3
overflow_add-result-3 c = omega (arith, (counted c).few)

pub returns : goal.returns
returns c = counted c
