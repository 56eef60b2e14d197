use mathlib.Core.Path.{◌∙◌}
use Rattle.perimeter.specs.Counts.{edge_at}
use Rattle.perimeter.specs.Sight.{met_count}
use Rattle.perimeter.proofs.Tally.{ends-counted}
use native.Mathlib.Omega.{arith}
use Prim.Native.Nat.{ℕ, ◌≤◌, ◌<◌}
use Rattle.std.proofs.Common.{rules}
use Rattle.perimeter.specs.Reach.{farthest}
use Rattle.perimeter.proofs.counts.count_edge.Goals as goal

pub overflow_sub-network : goal.overflow_sub-network
overflow_sub-network c = (c.requires.prepared.first_stands _ c.requires.j_in_bounds).from_one

pub reach-end1-requires : goal.reach-end1-requires
reach-end1-requires c = record { k_in_bounds = omega (arith, c.requires.prepared.first_stands c.args.j c.requires.j_in_bounds); near = c.requires.prepared.near }

pub overflow_sub-network-2 : goal.overflow_sub-network-2
overflow_sub-network-2 c = (c.requires.prepared.second_stands _ c.requires.j_in_bounds).from_one

pub reach-end2-requires : goal.reach-end2-requires
reach-end2-requires c = record { k_in_bounds = omega (arith, c.requires.prepared.second_stands c.args.j c.requires.j_in_bounds); near = c.requires.prepared.near }

-- a length is a number of 32 bits
small : {n : ℕ} → n < 4294967296 → n ≤ farthest
small h = omega (arith, h)

pub count_met-requires : goal.count_met-requires
count_met-requires c = record {
  end1_small = c.reach-end1.ensures.small;
  end2_small = c.reach-end2.ensures.small;
  length_small = small (search rules);
  offset_small = omega (arith, c.requires.prepared.near.offset_small);
  radius_small = omega (arith, c.requires.prepared.near.radius_small);
}

pub returns : goal.returns
unfolding met_count edge_at
returns c = record {
  is = c.count_met.ensures.is ∙ ends-counted _ _ _ _ c.reach-end1.ensures c.reach-end2.ensures;
  few = c.count_met.ensures.few;
}
