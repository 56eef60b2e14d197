-- The table's entries between the ends of the edges that events lie on.
use mathlib.Core.List.{List}
use mathlib.Core.Path.{◌≡◌}
use Prim.Native.Nat.{ℕ, pred, ◌<◌}
use native.Mathlib.Omega.{arith}
use lib.ListN.{length, get_or}
use Rattle.model.proofs.Laws.Checks.{SetsAccepted}
use Rattle.model.specs.Distance.{code}
use Rattle.model.specs.Location.{Side, at_first, at_second, end_node}
use Rattle.model.specs.Network.{Network, IsNode}
use Rattle.model.specs.NodeDistance.{bounded_distance}
use Rattle.prepare.specs.Prepared.{greatest, entry, Prepared}
use Rattle.prepare.proofs.Laws.LaidEvents.{laid-among, laid-is-event}

module _ {net : Network} {sets es xs ts edges offsets bounds set_runs_of table : List ℕ} (accepted : SetsAccepted net sets es xs)
    (p : Prepared net sets es xs ts edges offsets bounds set_runs_of table) where
  end-is-node : (a : Side) (i : ℕ) → i < length net.lengths → IsNode net (end_node net i a)
  unfolding end_node
  end-is-node at_first i h = accepted.is-network.ends.first_is i h
  end-is-node at_second i h = accepted.is-network.ends.second_is i h

  -- an end of a laid-out event's edge is a node
  pub laid-end-is-node : (a : Side) (k : ℕ) → k < length es → IsNode net (end_node net (pred (get_or edges k 0)) a)
  laid-end-is-node a k h =
      let e = laid-is-event accepted p k h in
      end-is-node a (pred (get_or edges k 0)) (omega (arith, e.from_one, e.to_edges))

  given-entry : (a : Side) (m v : ℕ) → m < length es → IsNode net v
      → entry net table (end_node net (pred (get_or es m 0)) a) v ≡ code (bounded_distance net (greatest ts) (end_node net (pred (get_or es m 0)) a) v)
  unfolding end_node
  given-entry at_first m v h n = p.from_first m v h n
  given-entry at_second m v h n = p.from_second m v h n

  -- from an end of a laid-out event's edge to any node
  pub end-entry : (a : Side) (k v : ℕ) → k < length es → IsNode net v
      → entry net table (end_node net (pred (get_or edges k 0)) a) v ≡ code (bounded_distance net (greatest ts) (end_node net (pred (get_or edges k 0)) a) v)
  end-entry a k v h n =
      let m = laid-among accepted p k h in
      rw m.edge-is at (given-entry a m.index v m.inside n)

  -- to an end of another's
  pub ends-entry : (a b : Side) (k j : ℕ) → k < length es → j < length es
      → entry net table (end_node net (pred (get_or edges k 0)) a) (end_node net (pred (get_or edges j 0)) b)
      ≡ code (bounded_distance net (greatest ts) (end_node net (pred (get_or edges k 0)) a) (end_node net (pred (get_or edges j 0)) b))
  ends-entry a b k j hk hj = end-entry a k (end_node net (pred (get_or edges j 0)) b) hk (laid-end-is-node b j hj)
