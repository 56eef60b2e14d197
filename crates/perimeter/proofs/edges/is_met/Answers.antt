use Rattle.std.proofs.Common.{◌∙◌, arith}
use Rattle.std.proofs.lemmas.Bool.Decides.{nat_tests}
use Rattle.perimeter.proofs.Offsets.{met-if-at, not-inside}
use Rattle.perimeter.proofs.edges.is_met.Goals as goal

pub returns-then-contains : goal.returns-then-contains
returns-then-contains c =
    let told = rw c.if-contains.true at c.contains.ensures.cases in
    met-if-at _ _ _ (grind (arith, nat_tests, told.0)) (grind (arith, nat_tests, told.1)) c.lies_at.ensures c.is_at.ensures

pub returns-else-contains : goal.returns-else-contains
returns-else-contains c =
    let told = rw c.if-contains.false at c.contains.ensures.cases in
    c.if-contains.false ∙ not-inside _ _ (grind (arith, nat_tests, told))
