-- From the parts to the whole: what laying out, cutting and searching leave is what the methods start from.
use mathlib.Core.List.{List, [], ◌∷◌}
use mathlib.Core.Path.{◌≡◌, ◌∙◌}
use Prim.Native.Nat.{ℕ, suc, ◌+◌, ◌*◌, ◌≤◌, ◌<◌}
use native.Mathlib.Omega.{arith}
use native.Mathlib.Nat.{mul-le-mul}
use lib.ListN.{length, get_or}
use Rattle.model.proofs.Laws.Checks.{SetsAccepted, network-accepts}
use Rattle.model.specs.Events.{greatest_set_of, set_count}
use Rattle.model.specs.Limits.{max_nodes, max_events, max_set}
use Rattle.model.specs.Network.{Network}
use Rattle.prepare.specs.Cutting.{Startable, SetsCut}
use Rattle.prepare.specs.Laying.{SetsFit, SetsLaid, Layable, RunsLaid}
use Rattle.prepare.specs.Marking.{Endable, EndsFilled}
use Rattle.prepare.specs.Prepared.{grouped, start_of, greatest, Prepared, KeptFrom, LaidKept}
use Rattle.prepare.proofs.Laws.Cuts.{run-changes, bounds-climb}
use Rattle.prepare.proofs.Laws.Groups.{start_first, start-next, starts-rise, events-total}

-- no number above a bound: the greatest is not above it
greatest-within : (m : ℕ) (sets : List ℕ) → ((k : ℕ) → k < length sets → get_or sets k 0 ≤ m) → greatest_set_of sets ≤ m
unfolding greatest_set_of
greatest-within m [] h = omega arith
greatest-within m (t ∷ sets) h = omega (arith, h 0 (omega arith), greatest-within m sets (λ k l. h (suc k) (omega arith)))

-- what the checks leave is what laying out and the table ask
module _ (net : Network) (sets es xs : List ℕ) (accepted : SetsAccepted net sets es xs) where
  pub layable : (edges offsets bounds set_runs_of : List ℕ) → length edges ≡ max_events → length offsets ≡ max_events → length bounds ≡ suc max_events → length set_runs_of ≡ max_set + 2
      → Layable sets es xs edges offsets bounds set_runs_of
  layable edges offsets bounds set_runs_of he ho hb hr =
      record {
        sets_length = accepted.sets_length;
        same_length = accepted.are-events.same_length;
        few_sets = greatest-within max_set sets accepted.numbers;
        few = accepted.are-events.few;
        edges_room = omega arith;
        offsets_room = omega arith;
        bounds_room = omega arith;
        runs_room = omega arith;
      }

  pub endable : (table : List ℕ) → length table ≡ max_nodes * max_nodes → Endable net es table
  endable table h =
      let network = accepted.is-network in
      record {
        accepted = network-accepts net network;
        edge_from = λ k l. (accepted.are-events.event-at k l).from_one;
        edge_to = λ k l. (accepted.are-events.event-at k l).to_edges;
        room = omega (arith, mul-le-mul network.nodes_to network.nodes_to);
      }

module _ (sets es xs edges offsets bounds set_runs_of : List ℕ) (asked : Layable sets es xs edges offsets bounds set_runs_of) where
  all-events : start_of sets (set_count sets) ≡ length es
  all-events = events-total sets es asked.sets_length

  pub sets-fit : (starts : List ℕ) → length starts ≡ max_set + 2 → SetsFit sets es xs (set_count sets) edges offsets starts
  unfolding set_count
  sets-fit starts h =
      let total = all-events in
      record {
        sets_length = asked.sets_length;
        same_length = asked.same_length;
        few_sets = omega (arith, asked.few_sets);
        few = omega (arith, asked.few);
        edges_room = omega (arith, asked.few, asked.edges_room);
        offsets_room = omega (arith, asked.few, asked.offsets_room);
        starts_room = omega (arith, asked.few_sets);
      }

  module _ (edges' offsets' starts : List ℕ) (laid : SetsLaid sets es xs (set_count sets) edges' offsets' starts) where
    start-at : (s : ℕ) → s ≤ set_count sets → get_or starts s 0 ≡ start_of sets s
    start-at = laid.starts_are

    pub startable : length edges' ≡ length edges → length starts ≡ max_set + 2 → Startable starts edges' bounds set_runs_of (set_count sets)
    unfolding set_count
    startable long h =
        let total = all-events in
        let last = start-at (set_count sets) (omega arith) in
        record {
          from_zero = start-at 0 (omega arith) ∙ start_first sets;
          in_order = λ s l. omega (arith, start-at s (omega arith), start-at (suc s) l, start-next sets s);
          to_last = λ s l. omega (arith, start-at s l, starts-rise sets s (set_count sets) l);
          within = omega (arith, asked.few, asked.edges_room);
          few = omega (arith, asked.few);
          room = omega (arith, asked.few, asked.bounds_room);
          starts_room = omega (arith, asked.few_sets);
          runs_room = omega (arith, asked.few_sets, asked.runs_room);
        }

    pub runs-laid : (bounds' set_runs' : List ℕ) → SetsCut starts edges' bounds' set_runs' (set_count sets) → RunsLaid sets es xs edges' offsets' bounds' set_runs'
    unfolding grouped
    runs-laid bounds' set_runs' cut =
        let total = all-events in
        record {
          edges_are = rw (← total) laid.edges_are;
          offsets_are = rw (← total) laid.offsets_are;
          runs = record {
            begins = cut.begins;
            at_zero = cut.cut.at_zero;
            rising = cut.cut.rising;
            one_edge = cut.cut.one_edge;
            whole = λ s r h low high.
                run-changes edges' (get_or starts (suc s) 0) (get_or bounds' r 0) (cut.cuts s r h low (omega arith))
                (omega (arith, bounds-climb edges' bounds' _ cut.cut r (get_or set_runs' (suc s) 0) high (cut.below (suc s) h), cut.set_begins (suc s) h));
            in_order = cut.in_order;
            set_begins = λ s h. cut.set_begins s h ∙ start-at s h;
            few = omega (arith, cut.cut.few, cut.set_begins (set_count sets) (omega arith), start-at (set_count sets) (omega arith));
          };
        }

  -- behind the events are the entries behind all sets
  pub laid_kept : {edges' offsets' bounds' set_runs' : List ℕ} → KeptFrom (start_of sets (set_count sets)) edges edges' → KeptFrom (start_of sets (set_count sets)) offsets offsets' → KeptFrom (suc (get_or set_runs' (set_count sets) 0)) bounds bounds' → KeptFrom (suc (set_count sets)) set_runs_of set_runs' → LaidKept sets es edges offsets bounds set_runs_of edges' offsets' bounds' set_runs'
  laid_kept e o b r = record { edges_kept = rw (← all-events) e; offsets_kept = rw (← all-events) o; bounds_kept = b; set_runs_kept = r }

-- everything together
pub prepared : (net : Network) (sets es xs ts edges offsets bounds set_runs_of table : List ℕ) → RunsLaid sets es xs edges offsets bounds set_runs_of
    → EndsFilled net es (greatest ts) table → Prepared net sets es xs ts edges offsets bounds set_runs_of table
prepared net sets es xs ts edges offsets bounds set_runs_of table laid filled =
    record {
      edges_are = laid.edges_are;
      offsets_are = laid.offsets_are;
      runs = laid.runs;
      from_first = filled.from_first;
      from_second = filled.from_second;
    }
