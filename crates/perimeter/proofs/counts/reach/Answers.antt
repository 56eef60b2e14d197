use native.Mathlib.Omega.{arith}
use Rattle.perimeter.proofs.Distances.{by-ends-small}
use Rattle.perimeter.specs.Counts.{reached}
use lib.ListN.{get_or}
use Prim.Native.Nat.{◌^◌}
use Rattle.perimeter.proofs.counts.reach.Goals as goal

pub overflow_cast-row1 : goal.overflow_cast-row1
overflow_cast-row1 c = omega (arith, c.type_inv.row1 c.args.k)

pub overflow_cast-row2 : goal.overflow_cast-row2
overflow_cast-row2 c = omega (arith, c.type_inv.row2 c.args.k)

pub by_ends-requires : goal.by_ends-requires
by_ends-requires c = omega (arith, c.type_inv.row1 c.args.k, c.type_inv.row2 c.args.k)

pub returns : goal.returns
unfolding reached
returns c = let e1 = c.type_inv.row1 c.args.k in
    let e2 = c.type_inv.row2 c.args.k in
    record {
      is = c.by_ends.ensures;
      small = omega (arith, c.by_ends.ensures, by-ends-small c.args.c.offset c.args.c.rest (get_or c.args.row1.now c.args.k 0) (get_or c.args.row2.now c.args.k 0) (2 ^ 32) (2 ^ 32) (omega arith) (omega arith) (omega arith) (omega arith));
    }
