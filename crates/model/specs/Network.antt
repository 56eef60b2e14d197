-- A network as it is lent: the number of nodes, and for each edge (01: leg) its first node, second node and length.
-- Nodes and edges are numbered from 1; edge k is index k - 1 of the lists. The definitions of walks, distances and locations speak of
-- indices; an event, or an edge that is asked about, is named by its number. Several edges may join the same two nodes, and an edge may
-- join a node to itself: a loop (02: a turning basin).
use Rattle.std.specs.Prelude.{List, ℕ, ◌≤◌, ◌<◌, length, get_or}
use Rattle.model.specs.declared.network.Network as lent

pub record Network : Type 0 where
  pub nodes : ℕ
  pub firsts : List ℕ
  pub seconds : List ℕ
  pub lengths : List ℕ

abbrev pub network : ℕ → List ℕ → List ℕ → List ℕ → Network
network nodes firsts seconds lengths = record { nodes = nodes; firsts = firsts; seconds = seconds; lengths = lengths }

-- what a network is of which the code is lent the parts
abbrev pub network_of : lent.Network → Network
network_of net = network net.nodes net.firsts.now net.seconds.now net.lengths.now

-- the number of edges
abbrev pub edges : Network → ℕ
edges net = length net.lengths

-- the first node, the second node and the length of the edge at an index
abbrev pub first : Network → ℕ → ℕ
first net i = get_or net.firsts i 0

abbrev pub second : Network → ℕ → ℕ
second net i = get_or net.seconds i 0

abbrev pub size : Network → ℕ → ℕ
size net i = get_or net.lengths i 0

-- v is a node of the network
pub record IsNode (net : Network) (v : ℕ) : Type 0 where
  pub from_one : 1 ≤ v
  pub to_nodes : v ≤ net.nodes

-- every edge ends at nodes of the network: what the laws about walks ask of a network
pub record EndsAreNodes (net : Network) : Type 0 where
  pub first_is : (i : ℕ) → i < edges net → IsNode net (first net i)
  pub second_is : (i : ℕ) → i < edges net → IsNode net (second net i)
