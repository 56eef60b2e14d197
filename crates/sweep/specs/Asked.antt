-- What the inner functions that check what is asked, and find the codes between the ends of two edges, promise: cited by no public
-- function.
use Rattle.model.specs.Refusal.{accepted}
use Rattle.std.specs.Prelude.{Bool, ◌&&◌, List, ◌≡◌, ℕ, ◌*◌, ◌≤◌, ◌<◌, eqb, leb, length}
use Rattle.model.specs.Answer.{written}
use Rattle.model.specs.Checks.{network_check}
use Rattle.model.specs.Distance.{code}
use Rattle.model.specs.Events.{having}
use Rattle.model.specs.Location.{Side, end_node}
use Rattle.model.specs.Network.{Network, IsNode, edges, first, second, size}
use Rattle.model.specs.NodeDistance.{bounded_distance}
use Rattle.sweep.specs.Answers.{cursor_positions, cursor_moves}
use Rattle.edge_pair.specs.Edges.{code_between_of}
use Rattle.sweep.specs.declared.asked.EndCodes.{EndCodes}
use Rattle.edge_pair.specs.declared.edges.EdgePair.{EdgePair}

-- lists of events that belong together, room for six positions at each event of the first edge, and for six sums of moves
unfoldable pub has_rooms_of : List ℕ → List ℕ → ℕ → List ℕ → List ℕ → Bool
has_rooms_of es xs e ps ms =
    eqb (length es) (length xs) && (leb (6 * length (having e es xs)) (length ps) && leb 6 (length ms))

-- an accepted network, a node and an edge at an index, and room for a row
pub record EndsAsked (net : Network) (source j : ℕ) (row : List ℕ) : Type 0 where
  pub accepted : network_check net ≡ accepted
  pub source_is : IsNode net source
  pub is_edge : j < edges net
  pub room : net.nodes ≤ length row

-- the codes from a node to both ends of the edge at index j
pub record EndsReached (net : Network) (bound source j : ℕ) (r : EndCodes) : Type 0 where
  pub first_is : r.first ≡ code (bounded_distance net bound source (first net j))
  pub second_is : r.second ≡ code (bounded_distance net bound source (second net j))

-- an accepted network, two edges at their indices, and room for a row
pub record EdgesAsked (net : Network) (i j : ℕ) (row : List ℕ) : Type 0 where
  pub accepted : network_check net ≡ accepted
  pub first_edge : i < edges net
  pub second_edge : j < edges net
  pub room : net.nodes ≤ length row

-- the same of two edges by their numbers, with no row
pub record TwoEdges (net : Network) (e f : ℕ) : Type 0 where
  pub accepted : network_check net ≡ accepted
  pub first_from : 1 ≤ e
  pub first_to : e ≤ edges net
  pub second_from : 1 ≤ f
  pub second_to : f ≤ edges net

-- what the sweep is told of the edges at the indices i and j
pub record EdgesFound (net : Network) (bound i j : ℕ) (w : EdgePair) : Type 0 where
  pub length1_is : w.length1 ≡ size net i
  pub length2_is : w.length2 ≡ size net j
  pub same_is : w.same ≡ eqb i j
  pub codes_are : (s s' : Side) → code_between_of w s s' ≡ code (bounded_distance net bound (end_node net i s) (end_node net j s'))

-- what the sweep leaves in the answer lists, what is asked being accepted
pub record CursorsWritten (net : Network) (es xs : List ℕ) (e f t bound : ℕ) (ps ms ps' ms' : List ℕ) : Type 0 where
  pub positions_are : ps' ≡ written accepted (cursor_positions net es xs e f t bound) ps
  pub moves_are : ms' ≡ written accepted (cursor_moves net es xs e f t bound) ms
