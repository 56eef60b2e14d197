-- What the public functions answer, and what they leave in answer lists.
use Rattle.model.specs.declared.refusal.Fault.TheVariants.{ListsDiffer}
use Rattle.std.specs.Prelude.{cond, List, [], ◌++◌, map, ◌≡◌, ℕ, zero, suc, pred, ◌*◌, ◌≤◌, eqb, length, get_or, take, drop}
use Rattle.model.specs.Answer.{written}
use Rattle.model.specs.Checks.{network_lists, network_values, lone_node_check, room_check}
use Rattle.model.specs.Counting.{numbers_from}
use Rattle.model.specs.Distance.{code}
use Rattle.model.specs.Limits.{max_length, max_nodes}
use Rattle.model.specs.Network.{Network}
use Rattle.model.specs.NodeDistance.{node_distance_of, bounded_distance}
use Rattle.model.specs.Refusal.{or_else, unless, Check, accepted}

-- the codes of the bounded distances from a source to every node, in node order
unfoldable pub distance_row : Network → ℕ → ℕ → List ℕ
distance_row net bound source = map (λ v. code (bounded_distance net bound source v)) (numbers_from 1 net.nodes)

-- 2, 6, 7 (the source at place 0), 8, 9
unfoldable pub row_check : Network → ℕ → List ℕ → Check
row_check net source answers =
    or_else (network_lists net) (or_else (room_check net.nodes answers) (network_values (lone_node_check net source) net))

pub record RowAnswered (net : Network) (source bound : ℕ) (answers : List ℕ) (r : Check) (answers' : List ℕ) : Type 0 where
  pub verdict : r ≡ row_check net source answers
  pub after : answers' ≡ written (row_check net source answers) (distance_row net bound source) answers
  -- no distance is above the greatest length times the greatest number of nodes
  pub small : r ≡ accepted → (v : ℕ) → code (bounded_distance net bound source v) ≤ suc (max_length * max_nodes)
  -- so a bound no less than that cuts nothing off
  pub whole : r ≡ accepted → max_length * max_nodes ≤ bound → (v : ℕ) → bounded_distance net bound source v ≡ node_distance_of net source v

-- 01: leg-end distances. A square table with a row for each node; a row that is not wanted (its entry of the list is 0) stays as it was
unfoldable pub table_rows : Network → ℕ → List ℕ → List ℕ → ℕ → ℕ → List ℕ
table_rows net bound wanted old u zero = []
table_rows net bound wanted old u (suc more) =
    cond (eqb (get_or wanted (pred u) 0) 0) (take net.nodes (drop (pred u * net.nodes) old)) (distance_row net bound u)
    ++ table_rows net bound wanted old (suc u) more

unfoldable pub table : Network → ℕ → List ℕ → List ℕ → List ℕ
table net bound wanted old = table_rows net bound wanted old 1 net.nodes

-- 2 (the list of wanted nodes has an entry for each node, the table one for each pair), 6, 7, 9
unfoldable pub table_check : Network → List ℕ → List ℕ → Check
table_check net wanted old =
    or_else (network_lists net)
    (or_else (unless (eqb (length wanted) net.nodes) ListsDiffer 0)
    (or_else (room_check (net.nodes * net.nodes) old) (network_values accepted net)))

pub record TableAnswered (net : Network) (bound : ℕ) (wanted old : List ℕ) (r : Check) (new : List ℕ) : Type 0 where
  pub verdict : r ≡ table_check net wanted old
  pub after : new ≡ written (table_check net wanted old) (table net bound wanted old) old
