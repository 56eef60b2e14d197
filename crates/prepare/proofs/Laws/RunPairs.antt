-- Runs as the loops over them read them, and their sums as the loops take them.
use mathlib.Core.List.{List}
use mathlib.Core.Path.{◌≡◌, ap, ◌∙◌}
use Prim.Native.Nat.{ℕ, suc, pred, ◌+◌, ◌-◌, ◌≤◌, ◌<◌}
use native.Mathlib.Omega.{arith}
use lib.ListN.{length, get_or}
use Rattle.model.proofs.Laws.Pieces.{part_length, part_at}
use Rattle.model.specs.Counting.{sum_below}
use Rattle.model.specs.Distance.{code}
use Rattle.model.specs.Events.{event, IsEvent}
use Rattle.model.specs.Limits.{max_length, max_events}
use Rattle.model.specs.Location.{Side, end_node}
use Rattle.model.specs.Network.{Network, edges, size}
use Rattle.model.specs.NodeDistance.{bounded_distance}
use Rattle.edge_pair.specs.Offsets.{Ordered, OnEdge}
use Rattle.prepare.specs.Prepared.{entry}
use Rattle.prepare.specs.RunPairs.{edge_of, part_of, run_pairs, pairs_with, RunsReady}

-- what holds of one run
pub record RunIs (net : Network) (es xs bounds : List ℕ) (k : ℕ) : Type 0 where
  pub part_length : length (part_of bounds k xs) ≡ get_or bounds (suc k) 0 - get_or bounds k 0
  pub some : 1 ≤ length (part_of bounds k xs)
  pub few : length (part_of bounds k xs) ≤ max_events
  pub edge_from : 1 ≤ edge_of es bounds k
  pub edge_to : edge_of es bounds k ≤ edges net
  pub short : size net (pred (edge_of es bounds k)) ≤ max_length
  pub on_edge : OnEdge (size net (pred (edge_of es bounds k))) (part_of bounds k xs)
  pub rising : Ordered (part_of bounds k xs)
  pub is_event : (i : ℕ) → i < length (part_of bounds k xs) → IsEvent net (event (edge_of es bounds k) (get_or (part_of bounds k xs) i 0))

-- how long a run's part of a list is, and what stands in it
pub part-of-length : (bounds l : List ℕ) (k : ℕ) → get_or bounds (suc k) 0 ≤ length l → length (part_of bounds k l) ≡ get_or bounds (suc k) 0 - get_or bounds k 0
unfolding part_of
part-of-length bounds l k h = part_length (get_or bounds k 0) (get_or bounds (suc k) 0) l h

pub part-of-at : (bounds l : List ℕ) (k i : ℕ) → i < get_or bounds (suc k) 0 - get_or bounds k 0 → get_or (part_of bounds k l) i 0 ≡ get_or l (get_or bounds k 0 + i) 0
unfolding part_of
part-of-at bounds l k i h = part_at (get_or bounds k 0) (get_or bounds (suc k) 0) i l h

module _ {net : Network} {table es xs bounds ts : List ℕ} {q : ℕ} (w : RunsReady net table es xs bounds ts q) where
  -- the place of a run's event lies within the events
  in-events : (k i : ℕ) → k < q → i < get_or bounds (suc k) 0 - get_or bounds k 0 → get_or bounds k 0 + i < get_or bounds q 0
  in-events k i l m = omega (arith, w.ends_in k l)

  run-event : (k i : ℕ) → k < q → i < get_or bounds (suc k) 0 - get_or bounds k 0 → IsEvent net (event (edge_of es bounds k) (get_or (part_of bounds k xs) i 0))
  run-event k i l m =
      rw (part-of-at bounds xs k i m, ← (w.one_edge k (get_or bounds k 0 + i) l (omega arith) (omega arith)))
      (w.is_event (get_or bounds k 0 + i) (in-events k i l m))

  pub run_is : (k : ℕ) → k < q → RunIs net es xs bounds k
  run_is k l =
      let up = w.begins k l in
      let in_List = w.ends_in k l in
      let long = part-of-length bounds xs k (omega (arith, w.in_offsets)) in
      let first = run-event k 0 l (omega arith) in
      record {
        part_length = long;
        some = omega arith;
        few = omega (arith, w.few);
        edge_from = first.from_one;
        edge_to = first.to_edges;
        short = w.table_is.length_to (pred (edge_of es bounds k)) (omega (arith, first.from_one, first.to_edges));
        on_edge = record { on = λ i m. (run-event k i l (omega arith)).on_edge };
        rising =
            record {
              in_order = λ i j m n.
                  rw (part-of-at bounds xs k i (omega arith), part-of-at bounds xs k j (omega arith))
                  (w.rising k (get_or bounds k 0 + i) (get_or bounds k 0 + j) l (omega arith) (omega arith) (omega arith));
            };
        is_event = λ i m. run-event k i l (omega arith);
      }

  -- the entries between the ends of two runs' edges
  pub run-codes : (a b : ℕ) → a < q → b < q → (s s' : Side) → entry net table (end_node net (pred (edge_of es bounds a)) s) (end_node net (pred (edge_of es bounds b)) s') ≡ code (bounded_distance net w.bound (end_node net (pred (edge_of es bounds a)) s) (end_node net (pred (edge_of es bounds b)) s'))
  unfolding edge_of
  run-codes a b la lb s s' =
      w.codes (get_or bounds a 0) (get_or bounds b 0) (omega (arith, w.begins a la, w.ends_in a la)) (omega (arith, w.begins b lb, w.ends_in b lb)) s s'

module _ (net : Network) (es xs bounds : List ℕ) where
  sum-none : (f : ℕ → ℕ) (r : ℕ) → sum_below (r - r) f ≡ 0
  unfolding sum_below
  sum-none f r = let none : r - r ≡ 0 = omega arith in rw none

  -- one term more of a sum that begins at r
  sum-on : (f : ℕ → ℕ) (r b : ℕ) → r ≤ b → sum_below (b + 1 - r) f ≡ sum_below (b - r) f + f (b - r)
  unfolding sum_below
  sum-on f r b h = let further : b + 1 - r ≡ suc (b - r) = omega arith in rw further

  pub with_nothing : (t r a : ℕ) → pairs_with net es xs bounds t r a (r - r) ≡ 0
  unfolding pairs_with
  with_nothing t r a = sum-none _ r

  pub with-next : (t r a b : ℕ) → r ≤ b → pairs_with net es xs bounds t r a (b + 1 - r) ≡ pairs_with net es xs bounds t r a (b - r) + run_pairs net es xs bounds t a b
  unfolding pairs_with
  with-next t r a b h =
      let on : r + (b - r) ≡ b = omega arith in
      sum-on _ r b h ∙ ap (λ (n : ℕ). sum_below (b - r) (λ k. run_pairs net es xs bounds t a (r + k)) + run_pairs net es xs bounds t a n) on
