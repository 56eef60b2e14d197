-- The sets laid out one after the other, and cut where each begins.
use mathlib.Core.Path.{◌≡◌, refl, ap, ◌∙◌}
use Prim.Native.Nat.{suc, ◌+◌}
use native.Mathlib.Numerals.{add-one}
use Rattle.model.specs.Events.{set_count}
use Rattle.prepare.proofs.Laws.Preparing.{sets-fit, startable, runs-laid, laid_kept}
use Rattle.prepare.proofs.laying_out.lay_runs.Goals.{After-greatest_set}
use Rattle.prepare.proofs.laying_out.lay_runs.Goals as goal

-- one more than the greatest set number
set-count : (c : After-greatest_set) → c.greatest_set.result + 1 ≡ set_count c.args.reports.sets.now
unfolding set_count
set-count c = add-one _ ∙ ap suc c.greatest_set.ensures

pub lay_sets-requires : goal.lay_sets-requires
unfolding set_count
lay_sets-requires c = let count = (set-count (goal.at.lay_sets-requires c).After-greatest_set) in
    rw count (sets-fit _ _ _ _ _ _ _ c.requires _ refl)

pub cut_sets-requires : goal.cut_sets-requires
unfolding set_count
cut_sets-requires c = let count = (set-count (goal.at.cut_sets-requires c).After-greatest_set) in
    rw count (startable _ _ _ _ _ _ _ c.requires _ _ _ (rw count at c.lay_sets.ensures.sets_laid) c.lay_sets.auto.laid_edges c.lay_sets.auto.starts)

pub returns : goal.returns
unfolding set_count
returns c = let count = (set-count (goal.at.returns c).After-greatest_set) in
    record { runs_laid = runs-laid _ _ _ _ _ _ _ c.requires _ _ _ (rw count at c.lay_sets.ensures.sets_laid) _ _ (rw count at c.cut_sets.ensures.sets_cut); laid_kept = laid_kept _ _ _ _ _ _ _ c.requires (rw count at c.lay_sets.ensures.kept_from.0) (rw count at c.lay_sets.ensures.kept_from.1) (rw count at c.cut_sets.ensures.kept_from.0) (rw count at c.cut_sets.ensures.kept_from.1) }
