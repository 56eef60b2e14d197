-- What is prepared is what the loops over a set's runs read, and what they sum up is the set's row of the answer.
use mathlib.Core.List.{List, map}
use mathlib.Core.Path.{◌≡◌, sym, ap, ◌∙◌}
use Prim.Native.Nat.{ℕ, suc, pred, ◌+◌, ◌-◌, ◌*◌, ◌≤◌, ◌<◌}
use native.Mathlib.Decide.{dec_le}
use native.Mathlib.Nat.{mul-le-mul}
use native.Mathlib.Omega.{arith}
use lib.ListN.{length, get_or}
use Rattle.model.proofs.Laws.Checks.{SetsAccepted, ThresholdsAccepted, thresholds-rise}
use Rattle.model.specs.Envelope.{count_of_set}
use Rattle.model.specs.Events.{event, events, set_size, set_count}
use Rattle.model.specs.Limits.{max_nodes, max_events, max_pairs}
use Rattle.model.specs.Network.{Network, EndsAreNodes}
use Rattle.prepare.specs.Counts.{count_row_of}
use Rattle.prepare.specs.EndTable.{EndTable}
use Rattle.prepare.specs.Prepared.{Prepared, laid_out_set, start_of, greatest}
use Rattle.prepare.specs.RunPairs.{edge_of, part_of, run_pairs, pairs_with, all_pairs, other_pairs, other_row, SumFits, RunsReady}
use Rattle.prepare.proofs.Laws.Entries.{ends-entry}
use Rattle.prepare.proofs.Laws.Groups.{events-total, laid-out-length, start-next, starts-rise}
use Rattle.prepare.proofs.Laws.InRuns.{run_count, bounds-rise, offsets_rise}
use Rattle.prepare.proofs.Laws.LaidEvents.{set-count, events-long, laid-is-event}
use Rattle.prepare.proofs.Laws.RunEvents.{set-pairs}
use Rattle.prepare.proofs.Laws.RunSums.{close-offsets, close-either, pairs-most, sum-halves}

-- the lists have room for all events and all nodes
pub record Stored (edges offsets bounds table : List ℕ) : Type 0 where
  pub edges-length : length edges ≡ max_events
  pub offsets-length : length offsets ≡ max_events
  pub bounds-length : length bounds ≡ suc max_events
  pub table-length : length table ≡ max_nodes * max_nodes

-- an accepted network is within its limits, and such a table has room for its nodes
pub stored-table : {net : Network} {sets es xs edges offsets bounds table : List ℕ} → SetsAccepted net sets es xs → Stored edges offsets bounds table → EndTable net table
stored-table accepted stored =
    let is = accepted.is-network in
    record {
      firsts_length = is.firsts_length;
      seconds_length = is.seconds_length;
      nodes_to = is.nodes_to;
      ends = is.ends;
      length_to = is.length_to;
      room = omega (arith, mul-le-mul is.nodes_to is.nodes_to, stored.table-length);
    }

-- the pairs of two runs are as many both ways
pub run-pairs-either : (net : Network) (es xs bounds : List ℕ) (t a b : ℕ) → EndsAreNodes net → run_pairs net es xs bounds t a b ≡ run_pairs net es xs bounds t b a
unfolding run_pairs
run-pairs-either net es xs bounds t a b ends =
    let e = edge_of es bounds a in
    let f = edge_of es bounds b in
    let ys = part_of bounds a xs in
    let zs = part_of bounds b xs in
    sym (close-offsets net t e f ys zs) ∙ close-either net t ends (map (event e) ys) (map (event f) zs) ∙ close-offsets net t f e zs ys

-- rising thresholds are at most the greatest
pub at-most-greatest : (ts : List ℕ) → ThresholdsAccepted ts → (i : ℕ) → i < length ts → get_or ts i 0 ≤ greatest ts
unfolding greatest
at-most-greatest ts up i h = go (dec_le (pred (length ts)) i)
  where
    go : Dec (pred (length ts) ≤ i) → get_or ts i 0 ≤ get_or ts (pred (length ts)) 0
    go (yes l) = let e : i ≡ pred (length ts) = omega arith in rw e (omega arith)
    go (no l) = omega (arith, thresholds-rise ts up i (pred (length ts)) (omega arith) (omega arith))

module _ {net : Network} {sets es xs ts edges offsets bounds set_runs_of table : List ℕ} (accepted : SetsAccepted net sets es xs) (up : ThresholdsAccepted ts)
    (p : Prepared net sets es xs ts edges offsets bounds set_runs_of table) where
  abbrev from-run : ℕ → ℕ
  from-run s = get_or set_runs_of s 0

  -- what is read for all runs
  pub all-ready : Stored edges offsets bounds table → RunsReady net table edges offsets bounds ts (run_count accepted p)
  unfolding edge_of
  all-ready stored =
      let few : length es ≤ max_events = accepted.are-events.few in
      let end : get_or bounds (run_count accepted p) 0 ≡ length es = p.runs.set_begins (set_count sets) (omega arith) ∙ events-total sets es accepted.sets_length in
      record {
        table_is = stored-table accepted stored;
        in_bounds = omega (arith, stored.bounds-length, p.runs.few);
        few_runs = omega (arith, p.runs.few);
        few = omega arith;
        in_edges = omega (arith, stored.edges-length);
        in_offsets = omega (arith, stored.offsets-length);
        begins = p.runs.rising;
        ends_in = λ k l. bounds-rise accepted p (suc k) (run_count accepted p) l (omega arith);
        is_event = λ k l. laid-is-event accepted p k (omega arith);
        one_edge = p.runs.one_edge;
        rising = offsets_rise accepted p;
        bound = greatest ts;
        within_bound = at-most-greatest ts up;
        codes = λ k j a b s₁ s₂. ends-entry accepted p s₁ s₂ k j (omega arith) (omega arith);
      }

  -- the events of set s
  module _ (s : ℕ) (is_set : s < set_count sets) where
    begins-at : get_or bounds (from-run s) 0 ≡ start_of sets s
    begins-at = p.runs.set_begins s (omega arith)

    ends_at : get_or bounds (from-run (suc s)) 0 ≡ start_of sets (suc s)
    ends_at = p.runs.set_begins (suc s) is_set

    inside : start_of sets (suc s) ≤ length es
    inside = omega (arith, starts-rise sets (suc s) (set_count sets) is_set, events-total sets es accepted.sets_length)

    -- the set's count, with each event beside itself
    set-total : (t : ℕ) → count_of_set net sets (events es xs) t s + set_size sets s ≡ all_pairs net edges offsets bounds t (from-run s) (from-run (suc s) - from-run s)
    unfolding all_pairs pairs_with run_pairs part_of edge_of
    set-total t =
        set-pairs accepted p s t is_set
        ∙ sum-halves (λ a b. run_pairs net edges offsets bounds t (from-run s + a) (from-run s + b)) (from-run (suc s) - from-run s)
        (λ a b h l. run-pairs-either net edges offsets bounds t (from-run s + a) (from-run s + b) accepted.is-network.ends)

    -- without it
    pub other-pairs : (t : ℕ) → other_pairs net edges offsets bounds t (from-run s) (from-run (suc s)) ≡ count_of_set net sets (events es xs) t s
    unfolding other_pairs
    other-pairs t = omega (arith, set-total t, begins-at, ends_at, start-next sets s)

    count_small : (t : ℕ) → count_of_set net sets (events es xs) t s ≤ max_pairs
    count_small t =
        let long = laid-out-length sets (events es xs) (events-long accepted p) s in
        let few : set_size sets s ≤ max_events = omega (arith, inside, start-next sets s, accepted.are-events.few) in
        rw (← (set-count net sets (events es xs) t s)) (omega (arith, pairs-most net (laid_out_set sets (events es xs) s) t max_events (omega arith)))

    pub sum_fits : (t : ℕ) → SumFits net edges offsets bounds (from-run s) (from-run (suc s)) t
    sum_fits t =
        let total = set-total t in
        record {
          themselves = omega (arith, begins-at, ends_at, start-next sets s);
          small = rw (other-pairs t) (omega (arith, count_small t));
          few = omega (arith, ends_at, inside, accepted.are-events.few);
        }

    -- the set's row
    pub row_is : other_row net edges offsets bounds ts (from-run s) (from-run (suc s)) ≡ count_row_of net sets (events es xs) ts s
    unfolding other_row count_row_of
    row_is = map_same ts
      where
        map_same : (l : List ℕ) → map (λ t. other_pairs net edges offsets bounds t (from-run s) (from-run (suc s))) l ≡ map (λ t. count_of_set net sets (events es xs) t s) l
        map_same l = ap (λ (f : ℕ → ℕ). map f l) (λ k t. other-pairs t k)
