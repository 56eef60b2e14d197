-- The entry is stored modulo 2 ^ 64; behind the end of the list nothing is.
use Rattle.std.proofs.Common.{refl, arith}
use Rattle.edge_pair.proofs.Laws.Totals.{same_rest, same_less, changed-at, changed-behind}
use Rattle.edge_pair.proofs.totals.change_from.Goals as goal

pub returns-then-place-totals : goal.returns-then-place-totals
returns-then-place-totals c = changed-at _ _ _ _ _ _ c.if-place-totals.true (same_rest refl) (same_less (omega arith) refl)

pub returns-else-place-totals : goal.returns-else-place-totals
returns-else-place-totals c = changed-behind _ _ _ _ c.if-place-totals.false
