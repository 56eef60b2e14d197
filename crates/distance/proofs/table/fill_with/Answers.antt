-- `fill_with`: the arcs are linked, so a search from any node can start.
use native.Mathlib.Omega.{arith}
use Rattle.model.proofs.Laws.Checks.{network-accepted}
use Rattle.distance.proofs.Rooms.{can-link}
use Rattle.distance.proofs.table.fill_with.Goals as goal

pub link-requires : goal.link-requires
link-requires c = let r = can-link (network-accepted _ c.requires.fillable.accepted) c.requires.rooms.0 in
    record { firsts_len_bound = r.0; nodes_in_bounds = r.1.0; by_index = r.1.1 }

pub fill_rows-requires : goal.fill_rows-requires
fill_rows-requires c = let n = network-accepted _ c.requires.fillable.accepted in record {
  fillable = c.requires.fillable;
  any_source = record {
    linked = c.link.ensures;
    dist_room = omega (arith, n.nodes_to, c.requires.rooms.1);
    front_room = omega (arith, n.nodes_to, c.requires.rooms.0.front_room);
  };
}
