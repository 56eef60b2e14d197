use Rattle.std.proofs.Common.{◌≡◌, ◌∙◌, sym, ◌+◌, ◌≤◌, arith, length-set}
use Rattle.model.specs.Events.{set_size}
use Rattle.prepare.specs.Prepared.{start_of}
use Rattle.prepare.proofs.Laws.Kept.{kept-all, part-behind}
use Rattle.prepare.proofs.Laws.Groups.{start_first}
use Rattle.prepare.proofs.Laws.Laying.{none-laid, set-end, set-fits, next_start, next-laid}
use Rattle.prepare.proofs.sets.lay_sets.Goals.{In-loop-s}
use Rattle.prepare.proofs.sets.lay_sets.Goals as goal

-- the set that is laid out next ends within the lists
end-within : (c : In-loop-s) → c.loop-s.start + set_size c.args.reports.sets.now c.loop-s.s ≤ start_of c.args.reports.sets.now c.args.count
end-within c = set-end _ _ _ _ _ _ _ c.requires _ _ _ _ _ c.loop-s.auto.laid_edges c.loop-s.auto.laid_offsets (c.loop-s.auto.starts ∙ simp length-set) c.loop-s.invariant.0 c.loop-s.invariant.2 (omega arith)

pub loop-s-init : goal.loop-s-init
loop-s-init c = (sym (start_first _), omega arith, none-laid _ _ _ _ _ c.args.starts.now (omega arith), kept-all _ _, kept-all _ _)

pub lay_set-start-requires : goal.lay_set-start-requires
lay_set-start-requires c = set-fits _ _ _ _ _ _ _ c.requires _ _ _ _ _ c.loop-s.auto.laid_edges c.loop-s.auto.laid_offsets (c.loop-s.auto.starts ∙ simp length-set) c.loop-s.invariant.0 c.loop-s.invariant.2 (omega arith)

pub overflow_add-start : goal.overflow_add-start
overflow_add-start c = omega (arith, c.requires.few, c.lay_set-start.ensures.set_laid.many, end-within (goal.at.overflow_add-start c).In-loop-s)

pub overflow_cast-starts : goal.overflow_cast-starts
overflow_cast-starts c = omega (arith, c.requires.few, c.lay_set-start.ensures.set_laid.many, end-within (goal.at.overflow_cast-starts c).In-loop-s)

pub loop-s-preserved : goal.loop-s-preserved
loop-s-preserved c = let end = end-within (goal.at.loop-s-preserved c).In-loop-s in (
  next_start _ _ _ _ _ _ _ c.requires _ _ _ _ _ c.loop-s.auto.laid_edges c.loop-s.auto.laid_offsets (c.loop-s.auto.starts ∙ simp length-set) c.loop-s.invariant.0 c.loop-s.invariant.2 (omega arith) _ _ _
      c.lay_set-start.auto.laid_edges c.lay_set-start.auto.laid_offsets c.lay_set-start.ensures.set_laid,
  omega (arith, c.lay_set-start.ensures.set_laid.many),
  next-laid _ _ _ _ _ _ _ c.requires _ _ _ _ _ c.loop-s.auto.laid_edges c.loop-s.auto.laid_offsets (c.loop-s.auto.starts ∙ simp length-set) c.loop-s.invariant.0 c.loop-s.invariant.2 (omega arith) _ _ _
      c.lay_set-start.auto.laid_edges c.lay_set-start.auto.laid_offsets c.lay_set-start.ensures.set_laid,
  part-behind c.loop-s.start c.lay_set-start.result c.loop-s.laid_edges (omega (arith, c.lay_set-start.ensures.set_laid.many)) c.lay_set-start.auto.laid_edges c.loop-s.invariant.3 c.lay_set-start.ensures.kept_from.0,
  part-behind c.loop-s.start c.lay_set-start.result c.loop-s.laid_offsets (omega (arith, c.lay_set-start.ensures.set_laid.many)) c.lay_set-start.auto.laid_offsets c.loop-s.invariant.4 c.lay_set-start.ensures.kept_from.1,
)

pub returns : goal.returns
returns c = let last : c.loop-s.s ≡ c.args.count = omega arith in
    record { sets_laid = rw (← last) c.loop-s.invariant.2; kept_from = rw (← last, ← c.loop-s.invariant.0) (c.loop-s.invariant.3, c.loop-s.invariant.4) }
