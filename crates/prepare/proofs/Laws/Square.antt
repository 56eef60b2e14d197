-- The entries of a square table lie within it.
use mathlib.Core.List.{List}
use mathlib.Core.Path.{◌≡◌}
use Prim.Native.Nat.{ℕ, pred, ◌+◌, ◌-◌, ◌*◌, ◌≤◌, ◌<◌}
use native.Mathlib.Nat.{mul-le-mul}
use native.Mathlib.Numerals.{sub-one}
use native.Mathlib.Omega.{arith}
use Rattle.distance.proofs.Laws.Rows.{in_rows}
use Rattle.model.specs.Limits.{max_nodes}
use Rattle.model.specs.Network.{Network, IsNode}
use Rattle.prepare.specs.EndTable.{EndTable, TableEntry}

-- the entry of two nodes lies within a square table, which is no larger than the greatest one
pub in-square : {nodes : ℕ} {table : List ℕ} {u v : ℕ} → TableEntry nodes table u v → (u - 1) * nodes + (v - 1) < nodes * nodes
in-square {nodes} {u = u} {v = v} e =
    in_rows nodes nodes (u - 1) (v - 1) (omega (arith, e.u_from, e.u_to)) (omega (arith, e.v_from, e.v_to))

pub square-small : {nodes : ℕ} {table : List ℕ} {u v : ℕ} → TableEntry nodes table u v → nodes * nodes ≤ max_nodes * max_nodes
square-small e = omega (arith, mul-le-mul e.nodes_to e.nodes_to)

-- its place by predecessors
pub place-as : (u v n : ℕ) → (u - 1) * n + (v - 1) ≡ pred u * n + pred v
place-as u v n = simp sub-one

-- the ends of the network's edges are such nodes
pub held-entry : {net : Network} {table : List ℕ} {u v : ℕ} → EndTable net table → IsNode net u → IsNode net v → TableEntry net.nodes table u v
held-entry h p q =
    record {
      u_from = p.from_one;
      u_to = p.to_nodes;
      v_from = q.from_one;
      v_to = q.to_nodes;
      nodes_to = h.nodes_to;
      room = h.room;
    }
