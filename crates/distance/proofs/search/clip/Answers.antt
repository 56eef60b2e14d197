-- `clip` sweeps the list with `clipped`.
use native.Mathlib.Omega.{arith}
use Rattle.distance.proofs.Lists.{sweep-more}
use Rattle.distance.proofs.search.clip.Goals as goal

pub loop-entry-preserved : goal.loop-entry-preserved
loop-entry-preserved c = sweep-more _ _ _ _ _ c.loop-entry.invariant (omega arith) c.clipped.ensures
