-- The steps are spread, the cells are filled, and it is told what they are.
use Rattle.std.proofs.Common.{sym, ◌∙◌, arith}
use Rattle.range_query.specs.Ladder.{widest_at}
use Rattle.range_query.proofs.Laws.Ladder.{spread-beside, spread-long, all-spread}
use Rattle.range_query.proofs.spreading.spread.Goals as goal

pub returns : goal.returns
returns c =
    let steps = spread-beside widest_at c.widest_gap.result (omega arith) c.spread_steps.ensures in
    (spread-long _ _ steps c.fill.ensures ∙ sym c.if-ladder-ne-LADDER.false, λ e some few rising. all-spread _ _ steps c.fill.ensures some few (λ k. (c.type_inv.thresholds k).fits) rising)
