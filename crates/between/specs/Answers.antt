-- What the public functions answer.
use Rattle.std.specs.Prelude.{ℕ, pred, Option, Some, None, Result}
use Rattle.model.specs.Answer.{answer}
use Rattle.model.specs.Checks.{nodes_over_network_check, locations_over_network_check}
use Rattle.model.specs.Distance.{Distance, metres, none}
use Rattle.model.specs.Location.{location_of, location_distance_of}
use Rattle.model.specs.Network.{Network}
use Rattle.model.specs.NodeDistance.{node_distance_of, bounded_distance}
use Rattle.model.specs.declared.refusal.Refusal.{Refusal}

-- the metres of a distance, if there is one
unfoldable pub metres_of : Distance → Option ℕ
metres_of (metres n) = Some n
metres_of none = None

-- the metres, none where there is no walk, or a refusal
unfoldable pub node_answer : Network → ℕ → ℕ → Result (Option ℕ) Refusal
node_answer net u v = answer (nodes_over_network_check net u v) (metres_of (node_distance_of net u v))

-- the metres, none where they are beyond the bound (no walk included), or a refusal
unfoldable pub bounded_node_answer : Network → ℕ → ℕ → ℕ → Result (Option ℕ) Refusal
bounded_node_answer net bound u v = answer (nodes_over_network_check net u v) (metres_of (bounded_distance net bound u v))

-- two locations, each an edge number and an offset
unfoldable pub location_answer : Network → ℕ → ℕ → ℕ → ℕ → Result (Option ℕ) Refusal
location_answer net e x f y =
    answer (locations_over_network_check net e x f y)
    (metres_of (location_distance_of net (location_of net (pred e) x) (location_of net (pred f) y)))
