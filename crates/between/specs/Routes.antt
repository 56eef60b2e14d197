-- The routes between two offsets by the ends of their edges, as the code puts them together.
use Rattle.model.specs.Refusal.{accepted}
use Rattle.std.specs.Prelude.{map, ◌≡◌, ℕ, ◌≤◌, ◌<◌}
use Rattle.model.specs.Checks.{network_check}
use Rattle.model.specs.Distance.{Distance, least_of}
use Rattle.model.specs.Location.{End, edge_ends, route}
use Rattle.model.specs.Network.{Network, edges, size}

-- the lesser route from an end to an offset of the edge at index j, by either end of that edge
unfoldable pub from_end_of : Network → End → ℕ → ℕ → Distance
from_end_of net a j y = least_of (map (route net a) (edge_ends net j y))

-- an offset of the edge at an index of an accepted network
pub record OnEdge (net : Network) (i x : ℕ) : Type 0 where
  pub accepted : network_check net ≡ accepted
  pub is_edge : i < edges net
  pub not_beyond : x ≤ size net i
