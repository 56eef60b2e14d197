-- Rows of entries: that one is the row of distances, and how far these go.
use mathlib.Core.List.{List}
use mathlib.Core.Path.{◌≡◌, ◌∙◌, sym}
use Prim.Native.Nat.{ℕ, suc, ◌+◌, ◌*◌, ◌<◌, ◌≤◌}
use native.Mathlib.Omega.{arith}
use lib.ListN.{length, take, drop, length-drop}
use lib.Seq.{length-take-le, get_or-take, get_or-drop}
use Rattle.model.proofs.Laws.Codes.{code-unique}
use Rattle.model.proofs.Laws.Lists.{all-entries}
use Rattle.model.specs.Distance.{code}
use Rattle.model.specs.Limits.{max_length, max_nodes}
use Rattle.model.specs.Network.{Network}
use Rattle.model.specs.NodeDistance.{node_distance_of, bounded_distance}
use Rattle.distance.specs.Answers.{distance_row}
use Rattle.distance.specs.Search.{Searched}

-- what a search leaves, from node 1 on, is the row of distances
pub searched-row : {net : Network} {source bound : ℕ} {dist : List ℕ} → Searched net source bound dist → net.nodes < length dist → take net.nodes (drop 1 dist) ≡ distance_row net bound source
unfolding distance_row
searched-row {net} {source} {bound} {dist} s room =
    all-entries (λ v. code (bounded_distance net bound source v)) (take net.nodes (drop 1 dist)) 1 net.nodes
    (length-take-le net.nodes (drop 1 dist) (rw length-drop (omega arith)))
    (λ k h. get_or-take net.nodes (drop 1 dist) k 0 h ∙ get_or-drop 1 dist k 0 ∙ (s.at (1 + k)).bounded)

-- the entries say how far any node is at most
pub searched-small : {net : Network} {source bound : ℕ} {dist : List ℕ} → Searched net source bound dist → (v : ℕ) → code (bounded_distance net bound source v) ≤ suc (max_length * max_nodes)
searched-small s v = rw (s.at v).bounded at (s.at v).small

-- and that a wide bound cuts nothing off
pub searched-whole : {net : Network} {source bound : ℕ} {dist : List ℕ} → Searched net source bound dist → max_length * max_nodes ≤ bound → (v : ℕ) → bounded_distance net bound source v ≡ node_distance_of net source v
searched-whole s wide v = code-unique _ _ (sym (s.at v).bounded ∙ (s.at v).whole wide)
