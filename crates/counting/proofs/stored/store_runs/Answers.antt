-- The runs so far are stored; a run that is put back leaves the others as they were.
use Rattle.std.proofs.Common.{rules}
use Rattle.counting.proofs.Laws.Stored.{RunCut, run-few, as_long, run-cut, run-stored}
use Rattle.counting.proofs.stored.store_runs.Goals.{After-value_at-to}
use Rattle.counting.proofs.stored.store_runs.Goals as goal

-- the run at hand
cut : (c : After-value_at-to) → RunCut c.args.offsets.now c.loop-k.near_first c.loop-k.near_second c.value_at-from.result c.value_at-to.result
cut c = run-cut c.requires c.loop-k.invariant c.loop-k-test.true _ _ c.value_at-from.ensures c.value_at-to.ensures

pub loop-k-preserved : goal.loop-k-preserved
loop-k-preserved c =
    let run = (cut (goal.at.loop-k-preserved c).After-value_at-to) in
    run-stored c.requires c.loop-k.invariant c.loop-k-test.true _ _ c.value_at-from.ensures c.value_at-to.ensures _ _ (search rules) (search rules) (c.store.ensures.numbers_stored run.rising (as_long run _ run.in_first) (as_long run _ run.in_second) (run-few run))
