-- Each turn the run goes on or ends.
use Rattle.std.proofs.Common.{add-one, sym, ◌∙◌, arith}
use Rattle.prepare.proofs.Laws.Kept.{kept-all, kept-later, kept_set}
use Rattle.prepare.proofs.Laws.Cuts.{cut-begins, cut-here, cut_later, cut-ends}
use Rattle.prepare.proofs.runs.cut.Goals.{then-ends_run, else-ends_run}
use Rattle.prepare.proofs.runs.cut.Goals as goal

pub loop-k-init : goal.loop-k-init
loop-k-init c = (simp add-one (cut-begins _ _ _ _ _ c.requires), kept-all _ _)

pub loop-k-preserved : goal.loop-k-preserved
loop-k-preserved c =
    elim c.if-ends_run.branch [
      | then-ends_run w ↦ (
        rw (w.bounds-is, w.r-is) (simp add-one (cut-here _ _ _ _ _ c.requires _ _ _ (omega arith) c.loop-k.invariant.0 (omega arith) (sym c.ends_run.ensures ∙ w.if-ends_run.true))),
        rw (w.bounds-is, w.r-is) (kept_set _ _ (omega arith) (kept-later _ (omega arith) c.loop-k.invariant.1)),
      )
      | else-ends_run w ↦ (
        rw (w.bounds-is, w.r-is) (simp add-one (cut_later _ _ _ _ _ c.requires _ _ _ (omega arith) c.loop-k.invariant.0 (omega arith) (sym c.ends_run.ensures ∙ w.if-ends_run.false))),
        rw (w.bounds-is, w.r-is) c.loop-k.invariant.1,
      )
    ]

pub returns : goal.returns
returns c = record { cut_to = cut-ends _ _ _ _ _ c.requires _ _ _ c.loop-k.invariant.0 (omega arith); kept_from = c.loop-k.invariant.1 }
