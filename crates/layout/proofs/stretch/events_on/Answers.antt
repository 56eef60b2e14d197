-- `events_on` hands back the part between two counts; where the check refuses, nothing, and the refusal beside it.
use Rattle.model.specs.Refusal.{accepted}
use mathlib.Core.Path.{◌≡◌, ◌∙◌, sym}
use native.Mathlib.Omega.{arith}
use Rattle.model.specs.Checks.{laid_out_check}
use Rattle.model.specs.Network.{network_of}
use Rattle.layout.proofs.Laws.OnEdge.{OnEdge, on_edge, stretch-refused, stretch-accepted}
use Rattle.layout.proofs.stretch.events_on.Goals.{After-count_below-to}
use Rattle.layout.proofs.stretch.events_on.Goals as goal

-- past the check, and behind the second count
passed : (c : After-count_below-to) → laid_out_check (network_of c.args.network) c.args.edges.now c.args.offsets.now c.args.edge ≡ accepted
passed c = sym c.check_laid_out.ensures ∙ c.in_default.is

on : (c : After-count_below-to) → OnEdge c.args.edges.now c.args.offsets.now c.args.edge c.count_below-from.result c.count_below-to.result
on c = on_edge _ _ _ _ _ _ (passed c) c.count_below-from.ensures c.count_below-to.ensures

pub returns-in-Err : goal.returns-in-Err
returns-in-Err c = rw c.number.ensures (stretch-refused _ _ _ _ _ (sym c.check_laid_out.ensures ∙ c.in-Err.is))

pub offset_bounds-offsets-from : goal.offset_bounds-offsets-from
offset_bounds-offsets-from c = omega (arith, on c, c.well_formed)

pub slice_bounds-result-count-2 : goal.slice_bounds-result-count-2
slice_bounds-result-count-2 c = (on c).in_order

pub slice_bounds-result-start-2 : goal.slice_bounds-result-start-2
slice_bounds-result-start-2 c = (on c).in_order

pub slice_bounds-result-end-2 : goal.slice_bounds-result-end-2
slice_bounds-result-end-2 c = (on c).inside

pub returns : goal.returns
returns c = stretch-accepted _ _ _ _ _ (passed (goal.at.returns c).After-count_below-to) (on (goal.at.returns c).After-count_below-to).stretch
