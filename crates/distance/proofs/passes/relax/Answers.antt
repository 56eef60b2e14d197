-- `relax`: proofs/Relaxing has what the two stores do.
use native.Mathlib.Omega.{arith}
use lib.ListN.{get_or}
use Rattle.distance.proofs.Relaxing.{relaxed, edge_in, middle-low}
use Rattle.distance.proofs.passes.relax.Goals as goal

pub offset_bounds-network-i : goal.offset_bounds-network-i
offset_bounds-network-i c = omega (arith, (edge_in c.requires.0 c.requires.1).small)

pub bounds-network-i : goal.bounds-network-i
bounds-network-i c = (edge_in c.requires.0 c.requires.1).in-firsts

pub overflow_cast-u : goal.overflow_cast-u
overflow_cast-u c = omega (arith, (edge_in c.requires.0 c.requires.1).first_small)

pub offset_bounds-network-i-2 : goal.offset_bounds-network-i-2
offset_bounds-network-i-2 c = omega (arith, (edge_in c.requires.0 c.requires.1).small)

pub bounds-network-i-2 : goal.bounds-network-i-2
bounds-network-i-2 c = (edge_in c.requires.0 c.requires.1).in-seconds

pub overflow_cast-v : goal.overflow_cast-v
overflow_cast-v c = omega (arith, (edge_in c.requires.0 c.requires.1).second-small)

pub offset_bounds-network-i-3 : goal.offset_bounds-network-i-3
offset_bounds-network-i-3 c = omega (arith, (edge_in c.requires.0 c.requires.1).small)

pub bounds-network-i-3 : goal.bounds-network-i-3
bounds-network-i-3 c = c.requires.1

pub offset_bounds-dist-v : goal.offset_bounds-dist-v
offset_bounds-dist-v c = omega (arith, (edge_in c.requires.0 c.requires.1).second-small)

pub bounds-dist-v : goal.bounds-dist-v
bounds-dist-v c = (edge_in c.requires.0 c.requires.1).second-inside

pub overflow_add-to_first : goal.overflow_add-to_first
overflow_add-to_first c = omega (arith, (edge_in c.requires.0 c.requires.1).short, c.requires.0.low (get_or c.args.network.seconds.now c.args.i 0))

pub lower-first_fell-requires : goal.lower-first_fell-requires
lower-first_fell-requires c = (edge_in c.requires.0 c.requires.1).first-inside

pub offset_bounds-dist-u : goal.offset_bounds-dist-u
offset_bounds-dist-u c = omega (arith, (edge_in c.requires.0 c.requires.1).first_small)

pub bounds-dist-u : goal.bounds-dist-u
bounds-dist-u c = omega (arith, (edge_in c.requires.0 c.requires.1).first-inside, c.lower-first_fell.auto)

pub overflow_add-to_second : goal.overflow_add-to_second
overflow_add-to_second c = omega (arith, (edge_in c.requires.0 c.requires.1).short, middle-low c.requires.0 c.requires.1 c.lower-first_fell.ensures.0 (get_or c.args.network.firsts.now c.args.i 0))

pub lower-second_fell-requires : goal.lower-second_fell-requires
lower-second_fell-requires c = omega (arith, (edge_in c.requires.0 c.requires.1).second-inside, c.lower-first_fell.auto)

pub overflow_add-result : goal.overflow_add-result
overflow_add-result c = omega (arith, (relaxed c.requires.0 c.requires.1 c.lower-first_fell.ensures.0 c.lower-first_fell.ensures.1 c.lower-second_fell.ensures.0 c.lower-second_fell.ensures.1).few)

pub returns : goal.returns
returns c = relaxed c.requires.0 c.requires.1 c.lower-first_fell.ensures.0 c.lower-first_fell.ensures.1 c.lower-second_fell.ensures.0 c.lower-second_fell.ensures.1
