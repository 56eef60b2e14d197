-- What filling the table asks.
use Rattle.model.specs.Refusal.{accepted}
use Rattle.std.specs.Prelude.{cond, List, ◌≡◌, ℕ, suc, ◌+◌, ◌*◌, ◌≤◌, ◌<◌, eqb, length, get_or, take, drop}
use Rattle.model.specs.Checks.{network_check}
use Rattle.model.specs.Distance.{code}
use Rattle.model.specs.Network.{Network}
use Rattle.model.specs.NodeDistance.{bounded_distance}
use Rattle.distance.specs.Answers.{distance_row}
use Rattle.distance.specs.Arcs.{Linked}

-- an accepted network, an entry for each node in the list of wanted ones, and room for every row
pub record Fillable (net : Network) (wanted table : List ℕ) : Type 0 where
  pub accepted : network_check net ≡ accepted
  pub wanted_length : length wanted ≡ net.nodes
  pub room : net.nodes * net.nodes ≤ length table

-- of the first k rows those that are wanted hold their distances
abbrev pub RowsHold : Network → ℕ → List ℕ → ℕ → List ℕ → Type 0
RowsHold net bound wanted k rows =
    (y v : ℕ) → y < k → v < net.nodes → (get_or wanted y 0 ≡ 0 → ⊥) → get_or rows (y * net.nodes + v) 0 ≡ code (bounded_distance net bound (suc y) (suc v))

-- the same of the rows before row k, which is one of a square table
pub record RowsKnown (net : Network) (bound : ℕ) (wanted : List ℕ) (k : ℕ) (rows : List ℕ) : Type 0 where
  pub fits : Fillable net wanted rows
  pub in_rows : k < net.nodes
  pub hold : RowsHold net bound wanted k rows

-- what row k holds then: the distances from its node, or what it held if it is not wanted
unfoldable pub filled_row : Network → ℕ → List ℕ → ℕ → List ℕ → List ℕ
filled_row net bound wanted k rows = cond (eqb (get_or wanted k 0) 0) (take net.nodes (drop (k * net.nodes) rows)) (distance_row net bound (suc k))

-- linked arcs, and room for the entries and the front: a search from any node can start
pub record AnySource (net : Network) (last next dist front : List ℕ) : Type 0 where
  pub linked : Linked net.firsts net.seconds last next net.nodes (length net.firsts + length net.firsts)
  pub dist_room : net.nodes < length dist
  pub front_room : net.nodes ≤ length front
