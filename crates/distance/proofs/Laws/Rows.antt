-- Rows of distances: one asked for with a node for a source and room for the answers is accepted, and what its entries are then.
use Rattle.model.specs.Refusal.{Check, accepted}
use mathlib.Core.List.{List}
use mathlib.Core.Path.{◌≡◌, ◌∙◌, ap}
use Prim.Native.Nat.{ℕ, suc, pred, ◌+◌, ◌*◌, ◌≤◌, ◌<◌}
use native.Mathlib.Nat.{mul-le-mul_right, suc-mul}
use native.Mathlib.Omega.{arith}
use lib.ListN.{length, get_or, length-map, get_or-append}
use Rattle.model.proofs.Laws.Answer.{written_is}
use Rattle.model.proofs.Laws.CheckParts.{lone-node-accept, room-accepts}
use Rattle.model.proofs.Laws.Lists.{numbers-length, from-numbers}
use Rattle.model.proofs.Laws.Refusal.{both-accepted, both-accept}
use Rattle.model.specs.Checks.{network_check, network_values}
use Rattle.model.specs.Counting.{numbers_from}
use Rattle.model.specs.Distance.{code}
use Rattle.model.specs.Network.{Network, IsNode}
use Rattle.model.specs.NodeDistance.{bounded_distance}
use Rattle.distance.specs.Answers.{distance_row, row_check, RowAnswered}
use Rattle.distance.specs.Search.{Found}

-- a place of a row, where n rows of m places stand one after the other
pub in_rows : (m n j i : ℕ) → j < n → i < m → j * m + i < n * m
in_rows m n j i h l =
    let rows : suc j * m ≤ n * m = mul-le-mul_right m h in
    omega (arith, suc-mul j m)

module _ (net : Network) (bound source : ℕ) where
  -- a row has an entry for each node
  pub row-length : length (distance_row net bound source) ≡ net.nodes
  unfolding distance_row
  row-length = length-map (numbers_from 1 net.nodes) _ ∙ numbers-length 1 net.nodes

  -- node v's stands at index v - 1
  pub row_at : (v : ℕ) → IsNode net v → get_or (distance_row net bound source) (pred v) 0 ≡ code (bounded_distance net bound source v)
  unfolding distance_row
  row_at v node =
      from-numbers _ 1 net.nodes (pred v) (omega (arith, node.from_one, node.to_nodes))
      ∙ ap (λ (n : ℕ). code (bounded_distance net bound source n)) (omega (arith, node.from_one))

-- an accepted network, a node for a source and room: the row is accepted
pub row-accepts : (net : Network) (source : ℕ) (answers : List ℕ) → network_check net ≡ accepted → IsNode net source → net.nodes ≤ length answers → row_check net source answers ≡ accepted
unfolding row_check network_check
row-accepts net source answers accepted node room =
    let both = both-accepted _ _ accepted in
    both-accept both.0
    (both-accept (room-accepts net.nodes answers room)
    (ap (λ (lone : Check). network_values lone net) (lone-node-accept net source node) ∙ both.1))

-- what stands in the answers then
module _ {net : Network} {source bound : ℕ} {answers after : List ℕ} {r : Check} (answered : RowAnswered net source bound answers r after) (passed : network_check net ≡ accepted) (node : IsNode net source) (room : net.nodes ≤ length answers) where
  is-accepted : row_check net source answers ≡ accepted
  is-accepted = row-accepts net source answers passed node room

  -- node v's entry, at index v - 1
  pub row-entry : (v : ℕ) → IsNode net v → get_or after (pred v) 0 ≡ code (bounded_distance net bound source v)
  row-entry v is =
      ap (λ (l : List ℕ). get_or l (pred v) 0) (answered.after ∙ written_is (distance_row net bound source) answers is-accepted)
      ∙ get_or-append (distance_row net bound source) _ 0 (pred v) (omega (arith, row-length net bound source, is.from_one, is.to_nodes))
      ∙ row_at net bound source v is

  -- the same, and how far it is at most
  pub row-found : (v : ℕ) → IsNode net v → Found net source bound v (get_or after (pred v) 0)
  row-found v is =
      let past : r ≡ accepted = answered.verdict ∙ is-accepted in
      record {
        bounded = row-entry v is;
        whole = λ wide. row-entry v is ∙ ap code (answered.whole past wide v);
        small = rw (row-entry v is) (answered.small past v);
      }
