-- What the methods start from: the sets one after the other, each laid out, cut into runs of events on one edge,
-- and the leg-end distances bounded by the greatest threshold.
use Rattle.model.specs.Refusal.{Check, accepted}
use Rattle.model.specs.declared.refusal.Refusal.{Refusal}
use Rattle.std.specs.Prelude.{List, [], ◌++◌, map, ◌≡◌, ℕ, zero, suc, pred, ◌+◌, ◌*◌, ◌≤◌, ◌<◌, length, get_or, take, drop, Err}
use Rattle.model.specs.Counting.{sum_below}
use Rattle.model.specs.Distance.{code}
use Rattle.model.specs.Events.{Event, events, having, sorted, set_size, set_count}
use Rattle.model.specs.Network.{Network, IsNode, first, second}
use Rattle.model.specs.NodeDistance.{bounded_distance}
use Rattle.prepare.specs.Counts.{counts_check}

-- the events of set s, laid out
unfoldable pub laid_out_set : List ℕ → List Event → ℕ → List Event
laid_out_set sets es s = sorted (having s sets es)

-- n sets from set s on, one after the other
unfoldable pub grouped_from : List ℕ → List Event → ℕ → ℕ → List Event
grouped_from sets es s zero = []
grouped_from sets es s (suc n) = laid_out_set sets es s ++ grouped_from sets es (suc s) n

unfoldable pub grouped : List ℕ → List Event → List Event
grouped sets es = grouped_from sets es 0 (set_count sets)

-- where set s begins among them
unfoldable pub start_of : List ℕ → ℕ → ℕ
start_of sets s = sum_below s (set_size sets)

-- the greatest of rising thresholds, which bounds the leg-end distances
unfoldable pub greatest : List ℕ → ℕ
greatest ts = get_or ts (pred (length ts)) 0

-- runs: R of them, by places 0 = bound 0 < bound 1 < .. < bound R = n that cut the events so that each run is all that one set has on
-- one edge;
-- the runs of set s are those from number set_runs_of s on, below set_runs_of (s + 1)
pub record Runs (sets edges bounds set_runs_of : List ℕ) (n : ℕ) : Type 0 where
  pub begins : get_or set_runs_of 0 0 ≡ 0
  pub at_zero : get_or bounds 0 0 ≡ 0
  pub rising : (r : ℕ) → r < get_or set_runs_of (set_count sets) 0 → get_or bounds r 0 < get_or bounds (suc r) 0
  pub one_edge : (r k : ℕ) → r < get_or set_runs_of (set_count sets) 0 → get_or bounds r 0 ≤ k → k < get_or bounds (suc r) 0 → get_or edges k 0 ≡ get_or edges (get_or bounds r 0) 0
  pub whole : (s r : ℕ) → s < set_count sets → get_or set_runs_of s 0 < r → r < get_or set_runs_of (suc s) 0 → get_or edges (get_or bounds r 0) 0 ≡ get_or edges (pred (get_or bounds r 0)) 0 → ⊥
  pub in_order : (s : ℕ) → s < set_count sets → get_or set_runs_of s 0 ≤ get_or set_runs_of (suc s) 0
  pub set_begins : (s : ℕ) → s ≤ set_count sets → get_or bounds (get_or set_runs_of s 0) 0 ≡ start_of sets s
  pub few : get_or set_runs_of (set_count sets) 0 ≤ n

-- the entry for two nodes in a square table
unfoldable pub entry : Network → List ℕ → ℕ → ℕ → ℕ
entry net table u v = get_or table (pred u * net.nodes + pred v) 0

-- everything together
pub record Prepared (net : Network) (sets es xs ts edges offsets bounds set_runs_of table : List ℕ) : Type 0 where
  pub edges_are : take (length es) edges ≡ map (λ e. e.edge) (grouped sets (events es xs))
  pub offsets_are : take (length es) offsets ≡ map (λ e. e.offset) (grouped sets (events es xs))
  pub runs : Runs sets edges bounds set_runs_of (length es)
  pub from_first : (k v : ℕ) → k < length es → IsNode net v → entry net table (first net (pred (get_or es k 0))) v ≡ code (bounded_distance net (greatest ts) (first net (pred (get_or es k 0))) v)
  pub from_second : (k v : ℕ) → k < length es → IsNode net v → entry net table (second net (pred (get_or es k 0))) v ≡ code (bounded_distance net (greatest ts) (second net (pred (get_or es k 0))) v)

-- the promise of preparing: its verdict, and on acceptance what the five lists hold then; what is left as it was is said by
-- LeftOnRefusal and SurplusKept
pub record Ready (net : Network) (sets es xs ts : List ℕ) (room : ℕ) (r : Check) (edges offsets bounds set_runs_of table : List ℕ) : Type 0 where
  pub verdict : r ≡ counts_check net sets es xs ts room
  pub prepared : counts_check net sets es xs ts room ≡ accepted → Prepared net sets es xs ts edges offsets bounds set_runs_of table

-- on refusal the five lists are left as they were
pub record LeftOnRefusal (r : Check) (edges offsets bounds set_runs_of table edges' offsets' bounds' set_runs' table' : List ℕ) : Type 0 where
  pub left : (x : Refusal) → r ≡ Err x → (edges' ≡ edges) × (offsets' ≡ offsets) × (bounds' ≡ bounds) × (set_runs' ≡ set_runs_of) × (table' ≡ table)

-- a list's entries from n on are left as they were
pub record KeptFrom (n : ℕ) (old new : List ℕ) : Type 0 where
  pub kept : drop n new ≡ drop n old

-- left as it was: what stands behind the events, behind the end of the last run and behind the last set's end
pub record LaidKept (sets es edges offsets bounds set_runs_of edges' offsets' bounds' set_runs' : List ℕ) : Type 0 where
  pub edges_kept : KeptFrom (length es) edges edges'
  pub offsets_kept : KeptFrom (length es) offsets offsets'
  pub bounds_kept : KeptFrom (suc (get_or set_runs' (set_count sets) 0)) bounds bounds'
  pub set_runs_kept : KeptFrom (suc (set_count sets)) set_runs_of set_runs'

-- no event's edge ends at node u
pub record NoEnd (net : Network) (es : List ℕ) (u : ℕ) : Type 0 where
  pub no_first : (k : ℕ) → k < length es → first net (pred (get_or es k 0)) ≡ u → ⊥
  pub no_second : (k : ℕ) → k < length es → second net (pred (get_or es k 0)) ≡ u → ⊥

-- left as they were: what stands behind the square of nodes, and the rows of nodes at which no event's edge ends
pub record TableKept (net : Network) (es table table' : List ℕ) : Type 0 where
  pub behind : KeptFrom (net.nodes * net.nodes) table table'
  pub other_rows : (u v : ℕ) → IsNode net u → IsNode net v → NoEnd net es u → entry net table' u v ≡ entry net table u v

-- on acceptance the five lists keep their surplus entries: what Prepared does not speak of is left as it was
pub record SurplusKept (net : Network) (sets es : List ℕ) (r : Check) (edges offsets bounds set_runs_of table edges' offsets' bounds' set_runs' table' : List ℕ) : Type 0 where
  pub laid : r ≡ accepted → LaidKept sets es edges offsets bounds set_runs_of edges' offsets' bounds' set_runs'
  pub table_kept : r ≡ accepted → TableKept net es table table'
