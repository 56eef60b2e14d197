use Rattle.std.proofs.Common.{◌∙◌, sym, ap}
use mathlib.Core.Logic.{⊎_elim}
use Rattle.model.specs.Counting.{one_if}
use Rattle.perimeter.proofs.Candidates.{unseen-self, unseen-fails, unseen-new}
use Rattle.perimeter.proofs.Tally.{as-number}
use Rattle.perimeter.proofs.edges.first_met.Goals as goal

pub returns-then-seen1-y : goal.returns-then-seen1-y
unfolding one_if
returns-then-seen1-y c =
    sym (ap one_if
    (⊎_elim (λ first. unseen-self _ _ _ first)
    (⊎_elim (λ second. unseen-fails _ _ _ (unseen-self _ _ _ second.1)) (λ third. unseen-fails _ _ _ (unseen-fails _ _ _ (unseen-self _ _ _ third.2))))
    c.then-seen1-y.either))

pub returns : goal.returns
returns c = c.from.ensures ∙ as-number _ ∙
    ap one_if
    (c.is_met.ensures ∙
    sym (unseen-new _ _ _ c.if-seen1-y.false ∙ unseen-new _ _ _ c.if-seen2-y.false ∙ unseen-new _ _ _ c.if-seen3-y.false))
