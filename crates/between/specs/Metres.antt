-- Distances as the code hands them: their metres, if any.
use Rattle.std.specs.Option.{IfSome}
use Rattle.std.specs.Prelude.{◌≡◌, ℕ, ◌*◌, ◌≤◌, Option, Some, None}
use Rattle.model.specs.Distance.{Distance, metres, none}
use Rattle.model.specs.Limits.{max_length, max_nodes}
use Rattle.model.specs.Network.{Network}
use Rattle.model.specs.NodeDistance.{node_distance_of, bounded_distance}
use Rattle.between.specs.Answers.{metres_of}

-- the distance of so many metres, if any; the metres of a distance give it back (proofs/Distances)
unfoldable pub distance_of : Option ℕ → Distance
distance_of (Some n) = metres n
distance_of None = none

-- the metres of the bounded distance of a node, as `Found` (distance/specs/Search) has them as an entry; a bound that no walk worth taking
-- passes cuts nothing off
pub record MetresFound (net : Network) (source bound v : ℕ) (found : Option ℕ) : Type 0 where
  pub bounded : found ≡ metres_of (bounded_distance net bound source v)
  pub whole : max_length * max_nodes ≤ bound → found ≡ metres_of (node_distance_of net source v)
  pub small : IfSome found (λ n. n ≤ max_length * max_nodes)
