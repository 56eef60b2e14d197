-- Walks between nodes, and what it means that a distance is the least length over all of them.
use Rattle.std.specs.Prelude.{◌≡◌, ℕ, ◌+◌, ◌≤◌, ◌<◌}
use Rattle.model.specs.Network.{Network, edges, first, second, size}
use Rattle.model.specs.Distance.{Distance, metres, none}

-- the edge at index i leads from u to v, taken one way or the other
pub data Joins (net : Network) (i u v : ℕ) : Type 0 where
  forward : first net i ≡ u → second net i ≡ v → Joins net i u v
  backward : second net i ≡ u → first net i ≡ v → Joins net i u v

-- a walk from one node to another, with its length: empty, or a walk followed by one more edge
pub data Walk (net : Network) : ℕ → ℕ → ℕ → Type 0 where
  here : {u : ℕ} → Walk net u u 0
  onward : {u v w n : ℕ} (i : ℕ) → i < edges net → Walk net u v n → Joins net i v w → Walk net u w (n + size net i)

-- d is the least of the lengths n for which a walk (of whatever kind) of length n is there, none where there is no walk
pub data IsLeast (Walks : ℕ → Type 0) : Distance → Type 0 where
  attained : {m : ℕ} → Walks m → ((n : ℕ) → Walks n → m ≤ n) → IsLeast Walks (metres m)
  no_walk : ((n : ℕ) → Walks n → ⊥) → IsLeast Walks none
