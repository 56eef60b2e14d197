-- The count of a set run by run: what the driver sums up, and what its loops over runs read.
use Rattle.std.specs.Prelude.{List, map, ◌≡◌, ℕ, suc, pred, ◌+◌, ◌-◌, ◌*◌, ◌≤◌, ◌<◌, length, get_or, take, drop}
use Rattle.model.specs.Counting.{sum_below, count_if}
use Rattle.model.specs.Distance.{code, within}
use Rattle.model.specs.Events.{event, IsEvent}
use Rattle.model.specs.Limits.{max_events}
use Rattle.model.specs.Location.{Side, end_node}
use Rattle.model.specs.Network.{Network}
use Rattle.model.specs.NodeDistance.{bounded_distance}
use Rattle.model.specs.PairCount.{event_distance}
use Rattle.prepare.specs.EndTable.{EndTable}
use Rattle.prepare.specs.Prepared.{entry}

-- the number of the edge of run r, and what stands at its places in a list
unfoldable pub edge_of : List ℕ → List ℕ → ℕ → ℕ
edge_of es bounds r = get_or es (get_or bounds r 0) 0

unfoldable pub part_of : List ℕ → ℕ → List ℕ → List ℕ
part_of bounds r l = take (get_or bounds (suc r) 0 - get_or bounds r 0) (drop (get_or bounds r 0) l)

module _ (net : Network) (es xs bounds : List ℕ) where
  -- how many events of run b lie within t of one of run a, for all of run a
  unfoldable pub run_pairs : ℕ → ℕ → ℕ → ℕ
  run_pairs t a b =
      sum_below (length (part_of bounds a xs)) (λ i. count_if (λ y. within (event_distance net (event (edge_of es bounds a) (get_or (part_of bounds a xs) i 0)) (event (edge_of es bounds b) y)) t) (part_of bounds b xs))

  -- run a with the n from run r on
  unfoldable pub pairs_with : ℕ → ℕ → ℕ → ℕ → ℕ
  pairs_with t r a n = sum_below n (λ k. run_pairs t a (r + k))

  -- n runs from run r on, each beside itself, and beside each earlier one and back
  unfoldable pub all_pairs : ℕ → ℕ → ℕ → ℕ
  all_pairs t r n = sum_below n (λ k. run_pairs t (r + k) (r + k) + 2 * pairs_with t r (r + k) k)

  -- the runs from r up to before q, each event beside itself taken off
  unfoldable pub other_pairs : ℕ → ℕ → ℕ → ℕ
  other_pairs t r q = all_pairs t r (q - r) - (get_or bounds q 0 - get_or bounds r 0)

  -- that at every threshold
  unfoldable pub other_row : List ℕ → ℕ → ℕ → List ℕ
  other_row ts r q = map (λ t. other_pairs t r q) ts

  -- there is an event beside itself for each, and what is left fits; the events are not too many
  pub record SumFits (r q t : ℕ) : Type 0 where
    pub themselves : get_or bounds q 0 - get_or bounds r 0 ≤ all_pairs t r (q - r)
    pub small : other_pairs t r q < 4294967296
    pub few : get_or bounds q 0 ≤ max_events

-- everything that the loops over the first q runs read: a network within its limits; runs, each on one edge and of rising offsets; and
-- entries for the ends of their edges, bounded by no less than any threshold
pub record RunsReady (net : Network) (table es xs bounds ts : List ℕ) (q : ℕ) : Type 0 where
  pub table_is : EndTable net table
  pub in_bounds : q < length bounds
  pub few_runs : q ≤ max_events
  pub few : get_or bounds q 0 ≤ max_events
  pub in_edges : get_or bounds q 0 ≤ length es
  pub in_offsets : get_or bounds q 0 ≤ length xs
  pub begins : (k : ℕ) → k < q → get_or bounds k 0 < get_or bounds (suc k) 0
  pub ends_in : (k : ℕ) → k < q → get_or bounds (suc k) 0 ≤ get_or bounds q 0
  pub is_event : (k : ℕ) → k < get_or bounds q 0 → IsEvent net (event (get_or es k 0) (get_or xs k 0))
  pub one_edge : (k i : ℕ) → k < q → get_or bounds k 0 ≤ i → i < get_or bounds (suc k) 0 → get_or es i 0 ≡ edge_of es bounds k
  pub rising : (k i j : ℕ) → k < q → get_or bounds k 0 ≤ i → i ≤ j → j < get_or bounds (suc k) 0 → get_or xs i 0 ≤ get_or xs j 0
  pub bound : ℕ
  pub within_bound : (k : ℕ) → k < length ts → get_or ts k 0 ≤ bound
  pub codes : (k j : ℕ) → k < get_or bounds q 0 → j < get_or bounds q 0 → (s s' : Side) → entry net table (end_node net (pred (get_or es k 0)) s) (end_node net (pred (get_or es j 0)) s') ≡ code (bounded_distance net bound (end_node net (pred (get_or es k 0)) s) (end_node net (pred (get_or es j 0)) s'))
