-- `find_with`: proofs/Rooms has what linking and the search ask.
use native.Mathlib.Omega.{arith}
use Rattle.distance.proofs.Rooms.{can-link, ready, asked}
use Rattle.distance.proofs.find.find_with.Goals as goal

pub link-requires : goal.link-requires
link-requires c = let r = can-link (asked c.requires.askable) c.requires.rooms in
    record { firsts_len_bound = r.0; nodes_in_bounds = r.1.0; by_index = r.1.1 }

pub search-requires : goal.search-requires
search-requires c = let n = asked c.requires.askable in
    ready n c.requires.askable.source_is c.requires.askable.room (omega (arith, n.nodes_to, c.requires.rooms.front_room)) c.link.ensures
