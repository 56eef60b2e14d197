-- What the methods ask of the table of leg-end distances: cited by inner functions alone.
use Rattle.std.specs.Prelude.{List, ◌≡◌, ℕ, ◌*◌, ◌≤◌, ◌<◌, length}
use Rattle.model.specs.Limits.{max_nodes, max_length}
use Rattle.model.specs.Network.{Network, EndsAreNodes, edges, size}

-- a network within its limits, and a square table for its nodes
pub record EndTable (net : Network) (table : List ℕ) : Type 0 where
  pub firsts_length : length net.firsts ≡ edges net
  pub seconds_length : length net.seconds ≡ edges net
  pub nodes_to : net.nodes ≤ max_nodes
  pub ends : EndsAreNodes net
  pub length_to : (i : ℕ) → i < edges net → size net i ≤ max_length
  pub room : net.nodes * net.nodes ≤ length table

-- two nodes, and a square table with an entry for them
pub record TableEntry (nodes : ℕ) (table : List ℕ) (u v : ℕ) : Type 0 where
  pub u_from : 1 ≤ u
  pub u_to : u ≤ nodes
  pub v_from : 1 ≤ v
  pub v_to : v ≤ nodes
  pub nodes_to : nodes ≤ max_nodes
  pub room : nodes * nodes ≤ length table
