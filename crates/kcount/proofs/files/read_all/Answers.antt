-- A read puts its bytes behind those that were read, and one that is interrupted puts none.
use Rattle.std.proofs.Common.{rules}
use Rattle.kcount.proofs.Laws.Front.{front-more, front-kept}
use Rattle.kcount.proofs.files.read_all.Goals as goal
use Rattle.kcount.proofs.files.read_all.Goals.{in-Ok, in-Err+else-ne}

pub loop-preserved : goal.loop-preserved
loop-preserved g c = record {
  within = search rules;
  front = elim c.match-read.branch [
    | in-Ok w ↦ front-more _ _ _ _ c.loop.invariant.within _ _ _ c.loop.invariant.front _ _ w.in-Ok.ensures.bound.0 w.done-is w.in-Ok.ensures.bytes.0
    | in-Err+else-ne w ↦ front-kept _ _ _ _ c.loop.invariant.within _ _ _ c.loop.invariant.front _ w.done-is w.in-Err.ensures.bytes
  ];
}
