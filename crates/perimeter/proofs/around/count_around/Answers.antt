use mathlib.Core.Path.{◌∙◌}
use native.Mathlib.Omega.{arith}
use Rattle.model.proofs.Laws.Checks.{network-accepted}
use Rattle.perimeter.proofs.Whole.{whole-count, prepared}
use Rattle.perimeter.proofs.around.count_around.Goals as goal

pub bounds-network-edge : goal.bounds-network-edge
bounds-network-edge c = omega (arith, (network-accepted _ c.requires.lengths_value).firsts_length)

pub bounds-network-edge-2 : goal.bounds-network-edge-2
bounds-network-edge-2 c = omega (arith, (network-accepted _ c.requires.lengths_value).seconds_length)

pub fill_row-requires : goal.fill_row-requires
fill_row-requires c = let is = network-accepted _ c.requires.lengths_value in
    record { lengths_value = c.requires.lengths_value; node = is.ends.first_is _ c.requires.edge_in_bounds.0; nodes_in_bounds = is.nodes_to }

pub fill_row-requires-2 : goal.fill_row-requires-2
fill_row-requires-2 c = let is = network-accepted _ c.requires.lengths_value in
    record { lengths_value = c.requires.lengths_value; node = is.ends.second_is _ c.requires.edge_in_bounds.0; nodes_in_bounds = is.nodes_to }

pub count_all-requires : goal.count_all-requires
count_all-requires c = let is = network-accepted _ c.requires.lengths_value in
    record { nodes_le_max_nodes = omega (arith, is.nodes_to); prepared = prepared is _ (record { offset_small = omega (arith, c.ranges.offset); rest_small = omega (arith, is.length_to c.args.edge c.requires.edge_in_bounds.0); radius_small = omega (arith, c.ranges.radius) }) _ _ (omega (arith, is.nodes_to)) (omega (arith, is.nodes_to)) }

pub returns : goal.returns
returns c = c.count_all.ensures ∙
    whole-count _ (network-accepted _ c.requires.lengths_value).ends _ _ _ _ _ c.fill_row.ensures c.fill_row-2.ensures c.requires.edge_in_bounds.0 c.requires.edge_in_bounds.1
