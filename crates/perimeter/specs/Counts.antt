-- The counts over all nodes and all edges, from two rows: the codes of the distances of every node from the first end of the
-- centre's edge and from the second. Node v stands at index v - 1.
use Rattle.std.specs.Prelude.{List, ◌≡◌, ℕ, ◌+◌, ◌-◌, ◌^◌, ◌≤◌, ◌<◌, eqb, length, get_or}
use Rattle.model.specs.Counting.{count_below_of}
use Rattle.model.specs.Distance.{Distance, exactly, code, decode}
use Rattle.model.specs.Limits.{max_edges}
use Rattle.model.specs.Network.{Network}
use Rattle.model.specs.NodeDistance.{bounded_distance}
use Rattle.perimeter.specs.Reach.{by_ends_of, insides_at, farthest}
use Rattle.perimeter.specs.declared.counts.Centre.{Centre}

-- from the centre to the node at index k
unfoldable pub reached : Centre → List ℕ → List ℕ → ℕ → Distance
reached c row1 row2 k = by_ends_of c.offset c.rest (decode (get_or row1 k 0)) (decode (get_or row2 k 0))

-- how many nodes lie at exactly the radius
unfoldable pub nodes_at : Centre → List ℕ → List ℕ → ℕ → ℕ
nodes_at c row1 row2 nodes = count_below_of nodes (λ k. exactly (reached c row1 row2 k) c.radius)

-- how many locations strictly inside the edge at index j do
unfoldable pub edge_at : Centre → List ℕ → List ℕ → List ℕ → List ℕ → List ℕ → ℕ → ℕ
edge_at c firsts seconds lengths row1 row2 j =
    insides_at (reached c row1 row2 (get_or firsts j 0 - 1)) (reached c row1 row2 (get_or seconds j 0 - 1)) (get_or lengths j 0)
    (eqb c.edge j)
    c.offset
    c.radius

-- the centre's numbers come from lists of 32 bits
pub record Near (c : Centre) : Type 0 where
  pub offset_small : c.offset ≤ 2 ^ 32
  pub rest_small : c.rest ≤ 2 ^ 32
  pub radius_small : c.radius ≤ 2 ^ 32

-- the code of a distance, small enough for sums
pub record Reached (d : Distance) (r : ℕ) : Type 0 where
  pub is : r ≡ code d
  pub small : r ≤ farthest

-- node v has an entry in both rows
pub record Standing (row1 row2 : List ℕ) (v : ℕ) : Type 0 where
  pub from_one : 1 ≤ v
  pub in_first : v ≤ length row1
  pub in_second : v ≤ length row2

-- lists that belong together, with an entry of the rows for each end of an edge
pub record Prepared (c : Centre) (firsts seconds lengths row1 row2 : List ℕ) : Type 0 where
  pub near : Near c
  pub firsts_length : length firsts ≡ length lengths
  pub seconds_length : length seconds ≡ length lengths
  pub few_edges : length lengths ≤ max_edges
  pub first_stands : (j : ℕ) → j < length lengths → Standing row1 row2 (get_or firsts j 0)
  pub second_stands : (j : ℕ) → j < length lengths → Standing row1 row2 (get_or seconds j 0)

-- a count that is small enough for sums
pub record CountedTo (limit count r : ℕ) : Type 0 where
  pub is : r ≡ count
  pub few : r ≤ limit

-- a row of bounded distances from a source
pub record IsRow (net : Network) (radius source : ℕ) (row : List ℕ) : Type 0 where
  pub entry : (k : ℕ) → k < net.nodes → get_or row k 0 ≡ code (bounded_distance net radius source (1 + k))
