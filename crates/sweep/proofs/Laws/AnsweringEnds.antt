-- The codes between the ends of two edges, found by a search from each end of the first.
use Rattle.model.specs.Refusal.{Check}
use mathlib.Core.List.{List}
use mathlib.Core.Path.{◌≡◌, refl}
use Prim.Native.Nat.{ℕ, pred, ◌-◌}
use native.Mathlib.Numerals.{sub-one}
use native.Mathlib.Omega.{arith}
use lib.Dec.{eqb}
use lib.ListN.{length, get_or}
use Rattle.distance.proofs.Laws.Rows.{row-entry}
use Rattle.distance.specs.Answers.{RowAnswered}
use Rattle.model.proofs.Laws.Checks.{IsNetwork, network-accepted}
use Rattle.model.specs.Distance.{code}
use Rattle.model.specs.Limits.{max_nodes}
use Rattle.model.specs.Location.{Side, at_first, at_second, end_node}
use Rattle.model.specs.Network.{Network, IsNode, first, second, size}
use Rattle.model.specs.NodeDistance.{bounded_distance}
use Rattle.sweep.specs.Asked.{EndsAsked, EndsReached, EdgesAsked, EdgesFound, TwoEdges}
use Rattle.edge_pair.specs.Edges.{code_between_of}
use Rattle.sweep.specs.declared.asked.EndCodes.{EndCodes}
use Rattle.edge_pair.specs.declared.edges.EdgePair.{EdgePair}

module _ {net : Network} {source j : ℕ} {row : List ℕ} (asked : EndsAsked net source j row) where
  -- a node's entry of the row that a search has filled
  pub row-code : {bound v : ℕ} {r : Check} {new : List ℕ} → RowAnswered net source bound row r new → IsNode net v → get_or new (pred v) 0 ≡ code (bounded_distance net bound source v)
  row-code {v = v} answered node = row-entry answered asked.accepted asked.source_is asked.room v node

  -- the ends of the second edge
  pub is-network : IsNetwork net
  is-network = network-accepted net asked.accepted

  pub first-node : IsNode net (first net j)
  first-node = is-network.ends.first_is j asked.is_edge

  pub second-node : IsNode net (second net j)
  second-node = is-network.ends.second_is j asked.is_edge

-- a search from each end of the first edge
pub record AskedFrom (net : Network) (i j : ℕ) (row : List ℕ) : Type 0 where
  pub from_first : EndsAsked net (first net i) j row
  pub from_second : (row' : List ℕ) → length row' ≡ length row → EndsAsked net (second net i) j row'

pub asked-from : (net : Network) (i j : ℕ) (row : List ℕ) → EdgesAsked net i j row → AskedFrom net i j row
asked-from net i j row a =
    let n = network-accepted net a.accepted in
    record {
      from_first = record { accepted = a.accepted; source_is = n.ends.first_is i a.first_edge; is_edge = a.second_edge; room = a.room };
      from_second = λ row' e. record { accepted = a.accepted; source_is = n.ends.second_is i a.first_edge; is_edge = a.second_edge; room = rw e a.room };
    }

pub found : {net : Network} {bound i j length1 length2 u v : ℕ} {a b : EndCodes} → length1 ≡ size net i → length2 ≡ size net j → u ≡ first net i → v ≡ second net i → EndsReached net bound u j a → EndsReached net bound v j b → EdgesFound net bound i j (record { length1 = length1; length2 = length2; same = eqb i j; ff = a.first; fs = a.second; sf = b.first; ss = b.second })
unfolding code_between_of end_node
found {net} {bound} {i} {j} {length1} {length2} {a = a} {b = b} p q is-first is-second from_first from_second =
    record { length1_is = p; length2_is = q; same_is = refl; codes_are = by-sides }
  where
    by-sides : (s s' : Side) → code_between_of (record { length1 = length1; length2 = length2; same = eqb i j; ff = a.first; fs = a.second; sf = b.first; ss = b.second }) s s' ≡ code (bounded_distance net bound (end_node net i s) (end_node net j s'))
    by-sides at_first at_first = rw (← is-first) from_first.first_is
    by-sides at_first at_second = rw (← is-first) from_first.second_is
    by-sides at_second at_first = rw (← is-second) from_second.first_is
    by-sides at_second at_second = rw (← is-second) from_second.second_is

-- edges by their numbers
pub by-numbers : (net : Network) (e f : ℕ) (row : List ℕ) → TwoEdges net e f → length row ≡ max_nodes → EdgesAsked net (e - 1) (f - 1) row
by-numbers net e f row t long =
    record {
      accepted = t.accepted;
      first_edge = omega (arith, t.first_from, t.first_to);
      second_edge = omega (arith, t.second_from, t.second_to);
      room = omega (arith, long, (network-accepted net t.accepted).nodes_to);
    }

pub found-by-numbers : (net : Network) (bound e f : ℕ) (w : EdgePair) → EdgesFound net bound (e - 1) (f - 1) w → EdgesFound net bound (pred e) (pred f) w
found-by-numbers net bound e f w h = rw (sub-one e, sub-one f) at h
