-- A write takes the next bytes, and one that is interrupted takes none.
use Rattle.std.proofs.Common.{rules}
use Rattle.kcount.proofs.Laws.Written.{written-more, written-kept}
use Rattle.kcount.proofs.files.write_all.Goals as goal
use Rattle.kcount.proofs.files.write_all.Goals.{in-Ok, in-Err+else-ne+else-call}

pub loop-call-preserved : goal.loop-call-preserved
loop-call-preserved g c = record {
  within = search rules;
  front = elim c.match-write.branch [
    | in-Ok w ↦ written-more _ _ _ _ _ c.loop-call.invariant.front _ _ w.done-is w.in-Ok.ensures.bytes
    | in-Err+else-ne+else-call w ↦ written-kept _ _ _ _ _ c.loop-call.invariant.front _ w.done-is w.in-Err.ensures.bytes
  ];
}
