-- Entries of the table of leg-end distances.
use mathlib.Core.Bool.{Bool, true, false, cond}
use mathlib.Core.List.{List, ◌++◌}
use mathlib.Core.Path.{◌≡◌, ap, ◌∙◌}
use Prim.Native.Nat.{ℕ, zero, suc, pred, ◌+◌, ◌*◌, ◌≤◌, ◌<◌}
use native.Mathlib.Nat.{mul-le-mul_right, suc-mul}
use native.Mathlib.Omega.{arith}
use lib.Dec.{eqb}
use lib.ListN.{length, get_or, take, drop, length-append, length-drop, get_or-append}
use lib.Seq.{get_or-append-add, get_or-take, get_or-drop, length-take-le}
use borrow.Author.Tests.{eq-eqb, ne_eqb}
use Rattle.distance.proofs.Laws.Rows.{row-length, row_at}
use Rattle.distance.specs.Answers.{distance_row, table_rows, table}
use Rattle.model.specs.Distance.{code}
use Rattle.model.specs.Network.{Network, IsNode}
use Rattle.model.specs.NodeDistance.{bounded_distance}
use Rattle.prepare.specs.Prepared.{entry}

module _ (net : Network) (bound : ℕ) (wanted old : List ℕ) where
  -- the row of a node, wanted or not
  abbrev row_of : ℕ → List ℕ
  row_of u = cond (eqb (get_or wanted (pred u) 0) 0) (take net.nodes (drop (pred u * net.nodes) old)) (distance_row net bound u)

  module _ (room : net.nodes * net.nodes ≤ length old) where
    rows_fit : (u : ℕ) → u < net.nodes → suc u * net.nodes ≤ net.nodes * net.nodes
    rows_fit u h = mul-le-mul_right net.nodes h

    each-length : (u : ℕ) → 1 ≤ u → u ≤ net.nodes → length (row_of u) ≡ net.nodes
    each-length u low high = go (eqb (get_or wanted (pred u) 0) 0)
      where
        go : (b : Bool) → length (cond b (take net.nodes (drop (pred u * net.nodes) old)) (distance_row net bound u)) ≡ net.nodes
        go true = length-take-le net.nodes (drop (pred u * net.nodes) old) (rw length-drop (omega (arith, rows_fit (pred u) (omega arith), suc-mul (pred u) net.nodes)))
        go false = row-length net bound u

    rows-length : (more u : ℕ) → 1 ≤ u → u + more ≤ suc net.nodes → length (table_rows net bound wanted old u more) ≡ more * net.nodes
    unfolding table_rows
    rows-length zero u low high = omega arith
    rows-length (suc more) u low high =
        length-append (row_of u) (table_rows net bound wanted old (suc u) more)
        ∙ omega (arith, each-length u low (omega arith), rows-length more (suc u) (omega arith) (omega arith), suc-mul more net.nodes)

    -- in the rows from node u on, the entry i of the row of node u + j
    rows-entry : (more u j i : ℕ) → 1 ≤ u → u + more ≤ suc net.nodes → j < more → i < net.nodes
        → get_or (table_rows net bound wanted old u more) (j * net.nodes + i) 0 ≡ get_or (row_of (u + j)) i 0
    unfolding table_rows
    rows-entry zero u j i low high h k = absurd (omega arith)
    rows-entry (suc more) u zero i low high h k =
        let here : 0 * net.nodes + i ≡ i = omega arith in
        let same : u + 0 ≡ u = omega arith in
        rw (here, same) (get_or-append (row_of u) _ 0 i (rw (each-length u low (omega arith)) k))
    rows-entry (suc more) u (suc j) i low high h k =
        let long = each-length u low (omega arith) in
        let further : suc j * net.nodes + i ≡ length (row_of u) + (j * net.nodes + i) = omega (arith, suc-mul j net.nodes) in
        let same : suc u + j ≡ u + suc j = omega arith in
        rw further
        (get_or-append-add (row_of u) (table_rows net bound wanted old (suc u) more) (j * net.nodes + i) 0
        ∙ rows-entry more (suc u) j i (omega arith) (omega arith) (omega arith) k
        ∙ ap (λ (n : ℕ). get_or (row_of n) i 0) same)

    -- the square
    pub table-length : length (table net bound wanted old) ≡ net.nodes * net.nodes
    unfolding table
    table-length = rows-length net.nodes 1 (omega arith) (omega arith)

    module _ (u v : ℕ) (nu : IsNode net u) (nv : IsNode net v) (rest : List ℕ) where
      inside : pred v < net.nodes
      inside = omega (arith, nv.from_one, nv.to_nodes)

      in_row : entry net (table net bound wanted old ++ rest) u v ≡ get_or (row_of u) (pred v) 0
      unfolding table entry
      in_row =
          let low = nu.from_one in
          let same : 1 + pred u ≡ u = omega arith in
          get_or-append (table_rows net bound wanted old 1 net.nodes) rest 0 (pred u * net.nodes + pred v)
          (omega (arith, inside, rows-length net.nodes 1 (omega arith) (omega arith), rows_fit (pred u) (omega (arith, nu.to_nodes)), suc-mul (pred u) net.nodes))
          ∙ rows-entry net.nodes 1 (pred u) (pred v) (omega arith) (omega arith) (omega (arith, nu.to_nodes)) inside
          ∙ ap (λ (n : ℕ). get_or (row_of n) (pred v) 0) same

      -- a wanted row, and another
      pub table-entry : (get_or wanted (pred u) 0 ≡ 0 → ⊥) → entry net (table net bound wanted old ++ rest) u v ≡ code (bounded_distance net bound u v)
      table-entry is = in_row ∙ simp (ne_eqb _ _ is) (row_at net bound u v nv)

      pub table-other : get_or wanted (pred u) 0 ≡ 0 → entry net (table net bound wanted old ++ rest) u v ≡ entry net old u v
      unfolding entry
      table-other is =
          in_row
          ∙ simp (eq-eqb _ _ is)
          (get_or-take net.nodes (drop (pred u * net.nodes) old) (pred v) 0 inside ∙ get_or-drop (pred u * net.nodes) old (pred v) 0)
