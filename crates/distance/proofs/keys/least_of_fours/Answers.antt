-- `least_of_fours`: see proofs/Least.
use native.Mathlib.Omega.{arith}
use Rattle.distance.proofs.Least.{join, ends_at}
use Rattle.distance.proofs.keys.least_of_fours.Goals as goal

pub loop-k-preserved : goal.loop-k-preserved
loop-k-preserved c = λ some. ends_at (join (c.loop-k.invariant some) c.least_of_four.ensures c.min-least.ensures) (omega arith)
