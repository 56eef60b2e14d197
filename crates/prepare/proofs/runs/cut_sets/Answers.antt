use Rattle.std.proofs.Common.{◌≡◌, ◌∙◌, ◌+◌, ◌<◌, length, arith, length-set, get_or-set_same}
use Rattle.prepare.proofs.Laws.Kept.{kept-all, kept-later, kept_then, kept_set}
use Rattle.prepare.proofs.Laws.Cuts.{sets-begin, set-cuttable, few_runs, next-set}
use Rattle.prepare.proofs.runs.cut_sets.Goals as goal

pub loop-s-init : goal.loop-s-init
loop-s-init c = let some : 0 < length c.args.set_runs.now = omega arith in
    (get_or-set_same c.args.set_runs.now 0 0 0 some, sets-begin _ _ c.args.bounds.now c.args.set_runs.now (omega arith) some c.requires.from_zero, kept-all _ _, kept-all _ _)

pub cut-runs-requires : goal.cut-runs-requires
cut-runs-requires c = set-cuttable _ _ _ _ _ c.requires _ _ _ _ (c.loop-s.auto.bounds ∙ simp length-set) (c.loop-s.auto.set_runs ∙ simp length-set) c.loop-s.invariant.0 c.loop-s.invariant.1 (omega arith)

pub overflow_cast-set_runs : goal.overflow_cast-set_runs
overflow_cast-set_runs c = omega (arith, few_runs _ _ _ _ _ c.requires _ _ _ _ (c.loop-s.auto.bounds ∙ simp length-set) (c.loop-s.auto.set_runs ∙ simp length-set) c.loop-s.invariant.0 c.loop-s.invariant.1 (omega arith) _ _ c.cut-runs.ensures.cut_to)

pub loop-s-preserved : goal.loop-s-preserved
loop-s-preserved c = let room : c.loop-s.s + 1 < length c.loop-s.set_runs = omega (arith, simp length-set at c.loop-s.auto.set_runs, c.requires.runs_room) in (
  get_or-set_same c.loop-s.set_runs (c.loop-s.s + 1) c.cut-runs.result 0 room,
  next-set _ _ _ _ _ c.requires _ _ _ _ (c.loop-s.auto.bounds ∙ simp length-set) (c.loop-s.auto.set_runs ∙ simp length-set) c.loop-s.invariant.0 c.loop-s.invariant.1 (omega arith) _ _ c.cut-runs.ensures.cut_to,
  kept_then (kept-later _ (omega (arith, c.cut-runs.ensures.cut_to.more)) c.loop-s.invariant.2) c.cut-runs.ensures.kept_from,
  kept_set _ _ (omega arith) (kept-later _ (omega arith) c.loop-s.invariant.3),
)

pub returns : goal.returns
returns c = let last : c.loop-s.s ≡ c.args.count = omega arith in record {
  sets_cut = rw (← last) c.loop-s.invariant.1;
  kept_from = (
    rw (← last, c.loop-s.invariant.0) (kept_then (kept_set 0 0 (omega arith) (kept-all _ _)) c.loop-s.invariant.2),
    rw (← last) (kept_then (kept_set 0 0 (omega arith) (kept-all _ _)) c.loop-s.invariant.3),
  );
}
