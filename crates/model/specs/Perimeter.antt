-- The perimeter count at a centre and a radius (document 000, section 3.1): how many locations lie at exactly that distance; and the
-- statement that it is the number of different locations there.
use mathlib.Core.List.{List, [], ◌++◌, map, Memᴰ}
use Rattle.std.specs.Prelude.{◌≡◌, ℕ, zero, suc, pred, length}
use Rattle.model.specs.Counting.{count_if, numbers_from, NoRepeats}
use Rattle.model.specs.Network.{Network, edges, size}
use Rattle.model.specs.Distance.{metres, exactly}
use Rattle.model.specs.Location.{Location, node, inside, IsLocation, location_distance_of}

-- the locations strictly inside the first n edges
unfoldable pub insides : Network → ℕ → List Location
insides net zero = []
insides net (suc n) = insides net n ++ map (inside n) (numbers_from 1 (pred (size net n)))

-- every location of the network, each once: the nodes, then the whole offsets strictly inside each edge
unfoldable pub locations : Network → List Location
locations net = map node (numbers_from 1 net.nodes) ++ insides net (edges net)

-- 01: the perimeter count
unfoldable pub perimeter_count_of : Network → Location → ℕ → ℕ
perimeter_count_of net centre radius = count_if (λ q. exactly (location_distance_of net centre q) radius) (locations net)

-- count is the number of different locations of the network at exactly that distance from the centre:
-- a list with no repeats that holds exactly those locations has that length.
-- Law (proofs/Laws/Perimeter, `perimeter-counts`): `perimeter_count_of` is such.
pub record CountsAt (net : Network) (centre : Location) (radius count : ℕ) : Type 0 where
  pub places : List Location
  pub no_repeats : NoRepeats places
  pub all_locations : (p : Location) → Memᴰ p places → IsLocation net p
  pub all_at : (p : Location) → Memᴰ p places → location_distance_of net centre p ≡ metres radius
  pub holds_all : (p : Location) → IsLocation net p → location_distance_of net centre p ≡ metres radius → Memᴰ p places
  pub as_many : length places ≡ count
