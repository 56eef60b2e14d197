-- An entry of 32 bits fits a place.
use native.Mathlib.Omega.{arith}
use Rattle.pair_counts.proofs.claim.place.Goals as goal

pub overflow_cast-result : goal.overflow_cast-result
overflow_cast-result c = omega (arith, c.type_inv.list c.args.k)
