-- What asking for a row of distances wants, so that nothing is refused.
use Rattle.model.specs.Refusal.{accepted}
use Rattle.std.specs.Prelude.{List, ◌≡◌, ℕ, ◌≤◌, length}
use Rattle.model.specs.Checks.{network_check}
use Rattle.model.specs.Network.{Network, IsNode}

-- an accepted network, a node to start from, and room for an entry of each node
pub record Asked (net : Network) (source : ℕ) (row : List ℕ) : Type 0 where
  pub accepted : network_check net ≡ accepted
  pub source_is : IsNode net source
  pub room : net.nodes ≤ length row
