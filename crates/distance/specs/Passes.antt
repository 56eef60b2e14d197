-- What passes over all edges keep. An entry is one more than the length of a walk from the source, or stands for a node that has not been
-- reached.
use Rattle.model.specs.Refusal.{accepted}
use Rattle.std.specs.Prelude.{List, ◌≡◌, ℕ, suc, ◌+◌, ◌<◌, ◌≤◌, length, get_or}
use Rattle.model.specs.Checks.{network_check}
use Rattle.model.specs.Network.{Network, IsNode, edges, first, second, size}
use Rattle.model.specs.Walk.{Walk}

-- the entry of a node that has not been reached. Law (proofs/Short, `short-distance`): one more than any distance is less
abbrev pub unreached : ℕ
unreached = 1073741824

-- what a pass asks of a network and its entries, and keeps
pub record Relaxable (net : Network) (source : ℕ) (dist : List ℕ) : Type 0 where
  pub accepted : network_check net ≡ accepted
  pub room : net.nodes < length dist
  pub low : (v : ℕ) → get_or dist v 0 ≤ unreached
  pub some : (v : ℕ) → IsNode net v → 1 ≤ get_or dist v 0
  pub walks : (v n : ℕ) → get_or dist v 0 ≡ suc n → suc n < unreached → Walk net source v n
  pub from_source : get_or dist source 0 ≤ 1

-- neither end of the edge at index i can be reached from the other by less than its entry
pub record Level (net : Network) (dist : List ℕ) (i : ℕ) : Type 0 where
  pub at_first : get_or dist (first net i) 0 ≤ get_or dist (second net i) 0 + size net i
  pub at_second : get_or dist (second net i) 0 ≤ get_or dist (first net i) 0 + size net i

abbrev pub AllLevel : Network → List ℕ → Type 0
AllLevel net dist = (i : ℕ) → i < edges net → Level net dist i

-- the edge at index i has been relaxed, and entries fell by so much in all: if by nothing, no entry changed
pub record Relaxed (net : Network) (source i : ℕ) (dist : List ℕ) (fell : ℕ) (dist' : List ℕ) : Type 0 where
  pub still : Relaxable net source dist'
  pub few : fell ≤ unreached + unreached
  pub same : fell ≡ 0 → dist' ≡ dist
  pub level : fell ≡ 0 → Level net dist i
