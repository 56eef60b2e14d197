-- Two edges from the table of leg-end distances.
use Rattle.std.specs.Prelude.{◌≡◌, ℕ, pred, ◌*◌, ◌<◌, ◌≤◌, List, length, ◌==◌}
use Rattle.model.specs.Limits.{max_nodes}
use Rattle.model.specs.Network.{Network, EndsAreNodes, edges, first, second, size}
use Rattle.edge_pair.specs.declared.edges.EdgePair.{EdgePair}
use Rattle.prepare.specs.Prepared.{entry}
use Rattle.counting.specs.declared.two_edges.Rows.{Rows}

-- an edge by its index, with the places of its ends' rows in a square table
unfoldable pub rows_of : Network → ℕ → Rows
rows_of net i =
    record { edge = i; length = size net i; first = pred (first net i) * net.nodes; second = pred (second net i) * net.nodes }

-- an edge of a network within its limits
pub record EdgeIn (net : Network) (i : ℕ) : Type 0 where
  pub firsts_length : length net.firsts ≡ edges net
  pub seconds_length : length net.seconds ≡ edges net
  pub nodes_to : net.nodes ≤ max_nodes
  pub ends : EndsAreNodes net
  pub is_edge : i < edges net

-- two edges, by their indices, with the table entries between their ends
unfoldable pub table_edges_of : Network → List ℕ → ℕ → ℕ → EdgePair
table_edges_of net table i j =
    record {
      length1 = size net i;
      length2 = size net j;
      same = (i == j);
      ff = entry net table (first net i) (first net j);
      fs = entry net table (first net i) (second net j);
      sf = entry net table (second net i) (first net j);
      ss = entry net table (second net i) (second net j);
    }
