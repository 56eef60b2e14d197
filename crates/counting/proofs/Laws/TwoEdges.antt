-- Two edges: the codes between their ends, and that nothing is reached where none has a route.
use Rattle.std.proofs.Common.{◌≡◌, ℕ, pred, ◌+◌, ◌*◌, ◌<◌, ◌≤◌, Bool, true, false, ◌&&◌, ◌||◌, eqb, List, length, get_or, refl, subst, arith, eqb-true}
use Rattle.model.proofs.Laws.Counting.{sum-below-zero}
use Rattle.model.proofs.Laws.Refusal.{both_true}
use Rattle.model.proofs.Laws.Cover.{none_pass}
use Rattle.model.specs.Distance.{plus, within, decode}
use Rattle.model.specs.Location.{reaches}
use Rattle.model.specs.Network.{Network, IsNode, edges, first, second, size}
use Rattle.edge_pair.specs.Edges.{code_between_of, distance_between}
use Rattle.edge_pair.specs.Within.{reached_by, is_reached, reached_pairs}
use Rattle.edge_pair.specs.declared.edges.EdgePair.{EdgePair}
use Rattle.prepare.proofs.Laws.Square.{in-square, place-as, held-entry}
use Rattle.prepare.specs.EndTable.{EndTable}
use Rattle.prepare.specs.Prepared.{entry}
use Rattle.counting.specs.TwoEdges.{rows_of, table_edges_of, EdgeIn}
use Rattle.counting.specs.declared.two_edges.Rows.{Rows}

-- a route with no code reaches nothing
no-route : (t a code b : ℕ) → code ≡ 0 → reaches t a (decode code) b ≡ false
unfolding reaches plus within decode
no-route t a code b e = rw e refl

all-off : {a b c d two : Bool} (near : Bool) → a ≡ false → b ≡ false → c ≡ false → d ≡ false → two ≡ false → (((a || b) || (c || d)) || (two && near)) ≡ false
all-off near p q r s two = rw (p, q, r, s, two)

-- none of the four has one
pub none-reached : (w : EdgePair) → w.same ≡ false → (((eqb w.ff 0 && eqb w.fs 0) && eqb w.sf 0) && eqb w.ss 0) ≡ true → (t : ℕ) (xs ys : List ℕ) → reached_pairs t w xs ys ≡ 0
unfolding reached_pairs is_reached reached_by distance_between code_between_of
none-reached w two none t xs ys =
    let last = both_true _ _ none in
    let third = both_true _ _ last.0 in
    let others = both_true _ _ third.0 in
    sum-below-zero (length xs) _ (λ i h. none_pass _ ys (λ j l. all-off _ (no-route t _ w.ff _ (eqb-true _ _ others.0)) (no-route t _ w.fs _ (eqb-true _ _ others.1)) (no-route t _ w.sf _ (eqb-true _ _ third.1)) (no-route t _ w.ss _ (eqb-true _ _ last.1)) two))

-- an edge of a network whose table is held
pub held-edge : {net : Network} {table : List ℕ} {i : ℕ} → EndTable net table → i < edges net → EdgeIn net i
held-edge h l =
    record {
      firsts_length = h.firsts_length;
      seconds_length = h.seconds_length;
      nodes_to = h.nodes_to;
      ends = h.ends;
      is_edge = l;
    }

-- an entry of a node's row lies within the table
pub row-entry : {net : Network} {table : List ℕ} {u v : ℕ} (row : ℕ) → EndTable net table → IsNode net u → IsNode net v → row ≡ pred u * net.nodes → (1 ≤ v) × (row + pred v < length table)
row-entry {net} {table} {u} {v} row h p q e =
    (q.from_one, rw e (subst (λ (k : ℕ). k < length table) (place-as u v net.nodes) (omega (arith, in-square (held-entry h p q), h.room))))

-- the rows of an edge as they were read
pub rows-read : (net : Network) (i : ℕ) (rows : Rows) → rows ≡ rows_of net i → (rows.first ≡ pred (first net i) * net.nodes) × (rows.second ≡ pred (second net i) * net.nodes)
unfolding rows_of
rows-read net i rows e = rw e (refl, refl)

-- and what is read by them
pub same-pair : (net : Network) (table : List ℕ) (i j : ℕ) (rows : Rows) {ff fs sf ss : ℕ} → rows ≡ rows_of net i → ff ≡ get_or table (rows.first + pred (first net j)) 0 → fs ≡ get_or table (rows.first + pred (second net j)) 0 → sf ≡ get_or table (rows.second + pred (first net j)) 0 → ss ≡ get_or table (rows.second + pred (second net j)) 0 → ◌≡◌ {A = EdgePair} (record { length1 = rows.length; length2 = size net j; same = eqb rows.edge j; ff = ff; fs = fs; sf = sf; ss = ss }) (table_edges_of net table i j)
unfolding table_edges_of rows_of entry
same-pair net table i j rows e a b c d = rw (a, b, c, d, e) refl
