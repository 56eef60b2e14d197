-- Demand 3 as one promise: three methods, every set and threshold, and the cursors of the set, threshold and two edges asked about.
use Rattle.model.specs.declared.refusal.Fault.TheVariants.{BadSet}
use Rattle.std.specs.Prelude.{cond, ◌&&◌, ◌||◌, List, map, ◌≡◌, ℕ, suc, ◌+◌, ◌*◌, ◌≤◌, ◌<◌, min, eqb, leb, ltb, length, get_or, Ok, Err}
use Rattle.model.specs.Answer.{written}
use Rattle.model.specs.Checks.{same_length_of, room_check, lone_edge_check}
use Rattle.model.specs.Counting.{count_if}
use Rattle.model.specs.Events.{events, having, set_count}
use Rattle.model.specs.Limits.{max_set}
use Rattle.model.specs.Network.{Network}
use Rattle.model.specs.PairCount.{CountsJoined}
use Rattle.model.specs.Refusal.{fault_number, or_else, unless, Check, accepted}
use Rattle.sweep.specs.Answers.{cursor_positions, cursor_moves}
use Rattle.sweep.specs.OneWay.{MovesOneWay}
use Rattle.prepare.specs.Counts.{counts_check, count_table}
use Rattle.prepare.specs.Prepared.{laid_out_set, greatest}

-- of two checks the refusal with the lower number, then the lower place
unfoldable pub lowest : Check → Check → Check
lowest (Ok done) b = b
lowest (Err r) (Ok done) = Err r
lowest (Err r) (Err s) =
    cond (ltb (fault_number r.fault) (fault_number s.fault) || (eqb (fault_number r.fault) (fault_number s.fault) && leb r.place s.place))
    (Err r) (Err s)

-- how many events of set s lie on edge e
unfoldable pub on_edge_of : List ℕ → List ℕ → ℕ → ℕ → ℕ
on_edge_of sets es s e = count_if (λ f. eqb f e) (having s sets es)

-- 2: sets and edges of the events differ in length, or there is no room for six cursors' positions at each event on the first edge
-- and for their moves
unfoldable pub cursor_room : List ℕ → List ℕ → ℕ → ℕ → List ℕ → List ℕ → Check
cursor_room sets es s e ps ms =
    or_else (same_length_of sets es) (or_else (room_check (6 * on_edge_of sets es s e) ps) (room_check 6 ms))

-- 12 and 13 for the set and the two edges asked about, each at place 0
unfoldable pub asked_check : Network → ℕ → ℕ → ℕ → Check
asked_check net s e f = or_else (unless (leb s max_set) BadSet 0) (or_else (lone_edge_check net e) (lone_edge_check net f))

-- all of it: the lowest number decides, then the lowest place
unfoldable pub claim_check : Network → List ℕ → List ℕ → List ℕ → List ℕ → ℕ → ℕ → ℕ → ℕ → List ℕ → List ℕ → Check
claim_check net sets es xs ts s e f room ps ms =
    lowest (cursor_room sets es s e ps ms) (lowest (asked_check net s e f) (counts_check net sets es xs ts room))

-- the edges and the offsets of set s, laid out
unfoldable pub set_edges : List ℕ → List ℕ → List ℕ → ℕ → List ℕ
set_edges sets es xs s = map (λ e. e.edge) (laid_out_set sets (events es xs) s)

unfoldable pub set_offsets : List ℕ → List ℕ → List ℕ → ℕ → List ℕ
set_offsets sets es xs s = map (λ e. e.offset) (laid_out_set sets (events es xs) s)

-- every entry of a list of counts is the number of ordered pairs of different events of its set that some walk no longer than its
-- threshold joins
pub record AllJoined (net : Network) (sets es xs ts counts : List ℕ) : Type 0 where
  pub joined : (u k : ℕ) → u < set_count sets → k < length ts → CountsJoined net (having u sets (events es xs)) (get_or ts k 0) (get_or counts (u * length ts + k) 0)

-- the promise. The lists: three of counts, one to a method; the positions of the cursors of set s at threshold t on edges e and
-- f, from distances bounded by the greatest of the thresholds; and their moves. (t need not be one of the thresholds; above the
-- greatest of them a route that t would admit may be beyond the bound and have no cursor.) A position or a sum of moves stands in
-- its list as one more, and 0 stands for 'no cursor'
module _ (net : Network) (sets es xs ts : List ℕ) (s t e f : ℕ) where
  pub record PairCountsAnswered (ranged augmented shared ps ms : List ℕ) (r : Check) (ranged' augmented' shared' ps' ms' : List ℕ) : Type 0 where
    pub verdict : r ≡ claim_check net sets es xs ts s e f (min (length ranged) (min (length augmented) (length shared))) ps ms
    pub by_range_of : ranged' ≡ written r (count_table net sets (events es xs) ts) ranged
    pub by_augmentation_of : augmented' ≡ written r (count_table net sets (events es xs) ts) augmented
    pub by_sharing_of : shared' ≡ written r (count_table net sets (events es xs) ts) shared
    pub positions_after : ps' ≡ written r (cursor_positions net (set_edges sets es xs s) (set_offsets sets es xs s) e f t (greatest ts)) ps
    pub moves_after : ms' ≡ written r (cursor_moves net (set_edges sets es xs s) (set_offsets sets es xs s) e f t (greatest ts)) ms
    pub range_joined : r ≡ accepted → AllJoined net sets es xs ts ranged'
    pub augmentation_joined : r ≡ accepted → AllJoined net sets es xs ts augmented'
    pub sharing_joined : r ≡ accepted → AllJoined net sets es xs ts shared'
    pub few_moves : r ≡ accepted → (c : ℕ) → c < 6 → get_or ms' c 0 ≤ suc (length (having f (set_edges sets es xs s) (set_offsets sets es xs s)))
    pub one_way : r ≡ accepted → MovesOneWay net (set_edges sets es xs s) (set_offsets sets es xs s) e f t (greatest ts)
