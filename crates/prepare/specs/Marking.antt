-- What the functions that mark the wanted nodes and fill the table keep: cited by inner functions alone.
use Rattle.model.specs.Refusal.{accepted}
use Rattle.std.specs.Prelude.{List, ◌≡◌, ℕ, pred, ◌*◌, ◌≤◌, ◌<◌, length, get_or}
use Rattle.model.specs.Checks.{network_check}
use Rattle.model.specs.Distance.{code}
use Rattle.model.specs.Network.{Network, IsNode, edges}
use Rattle.model.specs.NodeDistance.{bounded_distance}
use Rattle.prepare.specs.Prepared.{entry}

-- one end of the edge of each event, from a list of the ends of edges
abbrev pub end_of : List ℕ → List ℕ → ℕ → ℕ
end_of ends es k = get_or ends (pred (get_or es k 0)) 0

-- every event's edge has an entry in the list of ends, and that end one in the list of wanted nodes
pub record Markable (ends es wanted : List ℕ) : Type 0 where
  pub edge_from : (k : ℕ) → k < length es → 1 ≤ get_or es k 0
  pub edge_to : (k : ℕ) → k < length es → get_or es k 0 ≤ length ends
  pub end_from : (k : ℕ) → k < length es → 1 ≤ end_of ends es k
  pub end_to : (k : ℕ) → k < length es → end_of ends es k ≤ length wanted

-- no node is marked
pub record Unmarked (wanted : List ℕ) : Type 0 where
  pub none : (i : ℕ) → i < length wanted → get_or wanted i 0 ≡ 0

-- the ends of the first n events are marked, earlier marks are kept, and no other node is marked
pub record Marked (ends es : List ℕ) (n : ℕ) (wanted wanted' : List ℕ) : Type 0 where
  pub marks : (k : ℕ) → k < n → get_or wanted' (pred (end_of ends es k)) 0 ≡ 1
  pub keeps : (i : ℕ) → get_or wanted i 0 ≡ 1 → get_or wanted' i 0 ≡ 1
  pub others : (i : ℕ) → ((k : ℕ) → k < n → pred (end_of ends es k) ≡ i → ⊥) → get_or wanted' i 0 ≡ get_or wanted i 0

-- an accepted network, events on its edges, and room for every row
pub record Endable (net : Network) (es table : List ℕ) : Type 0 where
  pub accepted : network_check net ≡ accepted
  pub edge_from : (k : ℕ) → k < length es → 1 ≤ get_or es k 0
  pub edge_to : (k : ℕ) → k < length es → get_or es k 0 ≤ edges net
  pub room : net.nodes * net.nodes ≤ length table

-- the row of one end of each event's edge
abbrev pub Filled : Network → List ℕ → List ℕ → ℕ → List ℕ → Type 0
Filled net ends es bound table =
    (k v : ℕ) → k < length es → IsNode net v → entry net table (end_of ends es k) v ≡ code (bounded_distance net bound (end_of ends es k) v)

-- the rows of both ends
pub record EndsFilled (net : Network) (es : List ℕ) (bound : ℕ) (table : List ℕ) : Type 0 where
  pub from_first : Filled net net.firsts es bound table
  pub from_second : Filled net net.seconds es bound table
