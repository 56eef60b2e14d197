-- Where the six cursors of two edges rest, and where they come to stand at an offset of the first, moved on from anywhere.
use Rattle.std.specs.Prelude.{Bool, true, false, cond, List, ℕ}
use Rattle.model.specs.Location.{at_first, at_second}
use Rattle.edge_pair.specs.Edges.{side_of, code_between_of}
use Rattle.edge_pair.specs.declared.edges.EdgePair.{EdgePair}
use Rattle.sweep.specs.Cursors.{rest}
use Rattle.sweep.specs.Moving.{moved_on, route_cursor, below_cursor, up_to_cursor}
use Rattle.sweep.specs.declared.cursor.Cursor.{Cursor}
use Rattle.neighbor_sharing.specs.declared.moving.Stands.{Stands}

-- a route's cursor, from an end of the first edge to one of the second, and that cursor moved on to the offset x from any position
abbrev pub route_of : ℕ → EdgePair → Bool → Bool → Cursor
route_of t w first1 first2 = route_cursor t w.length1 first1 (code_between_of w (side_of first1) (side_of first2)) first2

unfoldable pub route_moved : ℕ → EdgePair → Bool → Bool → List ℕ → ℕ → ℕ → ℕ
route_moved t w first1 first2 ys x from = moved_on (route_of t w first1 first2) w.length2 ys x from

-- all six, each from where it stood; those of the window, on two different edges, at 0
unfoldable pub stands_moved : ℕ → EdgePair → List ℕ → ℕ → Stands → Stands
stands_moved t w ys x from =
    record {
      ff = route_moved t w true true ys x from.ff;
      fs = route_moved t w true false ys x from.fs;
      sf = route_moved t w false true ys x from.sf;
      ss = route_moved t w false false ys x from.ss;
      low = cond w.same (moved_on (below_cursor t) w.length2 ys x from.low) 0;
      high = cond w.same (moved_on (up_to_cursor t) w.length2 ys x from.high) 0;
    }

-- before the first event
unfoldable pub stands_at_rest : List ℕ → Stands
stands_at_rest ys =
    record {
      ff = rest at_first ys;
      fs = rest at_first ys;
      sf = rest at_second ys;
      ss = rest at_second ys;
      low = 0;
      high = 0;
    }
