-- The offset from the first end, and the length less the offset from the second.
use mathlib.Core.Path.{refl}
use Prim.Native.Nat.{◌-◌}
use native.Mathlib.Omega.{arith}
use lib.ListN.{length}
use Rattle.sweep.specs.Moving.{gap_at, is_within_of}
use Rattle.edge_pair.specs.Edges.{side_of}
use Rattle.sweep.proofs.cursor.is_within.Goals as goal

pub overflow_cast-result : goal.overflow_cast-result
overflow_cast-result c = omega (arith, c.type_inv.ys c.args.k)

pub returns-then-first : goal.returns-then-first
unfolding side_of gap_at is_within_of
returns-then-first c = rw c.if-first.true refl

pub overflow_cast-ys : goal.overflow_cast-ys
overflow_cast-ys c = omega (arith, c.type_inv.ys (length c.args.ys.now - 1 - c.args.k))

pub returns : goal.returns
unfolding side_of gap_at is_within_of
returns c = rw (c.if-first.false, c.saturating_sub.ensures) refl
