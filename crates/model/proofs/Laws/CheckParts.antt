-- What acceptance by the check of each number means, and (`..-accept`) that it asks nothing more.
use mathlib.Core.Bool.{true, false, not}
use mathlib.Core.List.{List, [], ◌∷◌}
use mathlib.Core.Path.{◌≡◌, ◌∙◌, ap}
use Prim.Native.Nat.{ℕ, zero, suc, pred, ◌≤◌, ◌<◌}
use native.Mathlib.Omega.{arith}
use borrow.Author.Tests.{eqb-true, eq-eqb, leb-true, le-leb, ltb-true, lt-ltb, not-true}
use lib.ListN.{length, get_or}
use Rattle.model.proofs.Laws.Refusal.{Between, both-accepted, both-accept, both_true, or-else-assoc, two-or-accepted, unless-accepted, unless-accepts, between-true, true-between, all-good, good-at, good-below, below-good, good-behind, behind-good}
use Rattle.model.specs.Checks.{same_length_of, room_check, sizes_check, nodes_check, lengths_check, set_numbers_check, event_edges_check, event_offsets_check, event_count_check, equal_sets_check, order_check, threshold_count_check, rising_check, lone_node_check, lone_edge_check, lone_offset_check, network_lists, event_lists, set_lists}
use Rattle.model.specs.Events.{event, events, InOrder, empty, one, more, before, set_size, greatest_set_of}
use Rattle.model.specs.Limits.{max_nodes, max_edges, max_length, max_events, max_set, max_thresholds}
use Rattle.model.specs.Network.{Network, IsNode, EndsAreNodes, edges, first, second, size}
use Rattle.model.specs.Refusal.{or_else, is_between_of, Check, accepted, refusal}
use Rattle.model.specs.declared.refusal.Fault.TheVariants.{ListsDiffer, BadSizes, BadNode, BadLength, BadSet, NoEdge, BeyondEdge, TooManyEvents, UnequalSets, NotInOrder, BadThresholds, NotRising}

-- 2: the lists have one length
pub same-length-accepted : (xs ys : List ℕ) → same_length_of xs ys ≡ accepted → length xs ≡ length ys
unfolding same_length_of
same-length-accepted xs ys e = eqb-true _ _ (unless-accepted _ ListsDiffer 0 e)

pub same-length-accepts : (xs ys : List ℕ) → length xs ≡ length ys → same_length_of xs ys ≡ accepted
unfolding same_length_of
same-length-accepts xs ys e = unless-accepts _ ListsDiffer 0 (eq-eqb _ _ e)

pub lists-accepted : (net : Network) → network_lists net ≡ accepted → (length net.firsts ≡ edges net) × (length net.seconds ≡ edges net)
unfolding network_lists
lists-accepted net e =
    let both = both-accepted _ _ e in
    (same-length-accepted _ _ both.0, same-length-accepted _ _ both.1)

pub lists-accept : (net : Network) → length net.firsts ≡ edges net → length net.seconds ≡ edges net → network_lists net ≡ accepted
unfolding network_lists
lists-accept net f s = both-accept (same-length-accepts _ _ f) (same-length-accepts _ _ s)

-- 2 is 2, whichever list it is for
pub lists-first : (net : Network) {rest : Check} → rest ≡ refusal ListsDiffer 0 → or_else (network_lists net) rest ≡ refusal ListsDiffer 0
unfolding network_lists same_length_of
lists-first net e = or-else-assoc _ _ _ ∙ two-or-accepted _ _ (two-or-accepted _ _ e)

-- an answer list has room for so many entries
pub room-accepted : (n : ℕ) (answers : List ℕ) → room_check n answers ≡ accepted → n ≤ length answers
unfolding room_check
room-accepted n answers e = leb-true _ _ (unless-accepted _ ListsDiffer 0 e)

pub room-accepts : (n : ℕ) (answers : List ℕ) → n ≤ length answers → room_check n answers ≡ accepted
unfolding room_check
room-accepts n answers h = unless-accepts _ ListsDiffer 0 (le-leb _ _ h)

pub set-lists-accepted : (sets es xs : List ℕ) → set_lists sets es xs ≡ accepted → (length sets ≡ length es) × (length es ≡ length xs)
unfolding set_lists event_lists
set-lists-accepted sets es xs e =
    let both = both-accepted _ _ e in
    (same-length-accepted _ _ both.0, same-length-accepted _ _ both.1)

pub set-lists-accept : (sets es xs : List ℕ) → length sets ≡ length es → length es ≡ length xs → set_lists sets es xs ≡ accepted
unfolding set_lists event_lists
set-lists-accept sets es xs s e = both-accept (same-length-accepts _ _ s) (same-length-accepts _ _ e)

-- 6
pub sizes-accepted : (nodes edges : ℕ) → sizes_check nodes edges ≡ accepted → Between 1 max_nodes nodes × Between 1 max_edges edges
unfolding sizes_check
sizes-accepted nodes edges e =
    let both = both_true _ _ (unless-accepted _ BadSizes 0 e) in
    (between-true 1 max_nodes nodes both.0, between-true 1 max_edges edges both.1)

pub sizes-accept : (nodes edges : ℕ) → Between 1 max_nodes nodes → Between 1 max_edges edges → sizes_check nodes edges ≡ accepted
unfolding sizes_check
sizes-accept nodes edges n e =
    unless-accepts _ BadSizes 0
    (simp (true-between 1 max_nodes nodes n.from n.to, true-between 1 max_edges edges e.from e.to))

-- 7
pub node-true : (net : Network) (v : ℕ) → is_between_of 1 net.nodes v ≡ true → IsNode net v
node-true net v e = let b = between-true 1 net.nodes v e in record { from_one = b.from; to_nodes = b.to }

pub true-node : (net : Network) (v : ℕ) → IsNode net v → is_between_of 1 net.nodes v ≡ true
true-node net v n = true-between 1 net.nodes v n.from_one n.to_nodes

pub lone-node-accepted : (net : Network) (v : ℕ) → lone_node_check net v ≡ accepted → IsNode net v
unfolding lone_node_check
lone-node-accepted net v e = node-true net v (unless-accepted _ BadNode 0 e)

pub lone-node-accept : (net : Network) (v : ℕ) → IsNode net v → lone_node_check net v ≡ accepted
unfolding lone_node_check
lone-node-accept net v n = unless-accepts _ BadNode 0 (true-node net v n)

pub ends-accepted : (net : Network) → nodes_check net ≡ accepted → EndsAreNodes net
unfolding nodes_check
ends-accepted net e =
    let both : (i : ℕ) → i < edges net → _ = λ i h. both_true _ _ (good-below BadNode _ (edges net) e i h) in
    record { first_is = λ i h. node-true net _ (both i h).0; second_is = λ i h. node-true net _ (both i h).1 }

pub ends-accept : (net : Network) → EndsAreNodes net → nodes_check net ≡ accepted
unfolding nodes_check
ends-accept net n =
    below-good BadNode _ (edges net)
    (λ i h. simp (true-node net (first net i) (n.first_is i h), true-node net (second net i) (n.second_is i h)))

-- 9: every length is within its limits
pub lengths-accepted : (net : Network) → lengths_check net ≡ accepted → (i : ℕ) → i < edges net → Between 1 max_length (size net i)
unfolding lengths_check
lengths-accepted net e i h = between-true 1 max_length (size net i) (good-below BadLength _ (edges net) e i h)

pub lengths-accept : (net : Network) → ((i : ℕ) → i < edges net → Between 1 max_length (size net i)) → lengths_check net ≡ accepted
unfolding lengths_check
lengths-accept net b =
    below-good BadLength _ (edges net) (λ i h. true-between 1 max_length (size net i) (b i h).from (b i h).to)

-- 13: every edge number names an edge
pub lone-edge-accepted : (net : Network) (edge : ℕ) → lone_edge_check net edge ≡ accepted → Between 1 (edges net) edge
unfolding lone_edge_check
lone-edge-accepted net edge e = between-true 1 (edges net) edge (unless-accepted _ NoEdge 0 e)

pub lone-edge-accept : (net : Network) (edge : ℕ) → Between 1 (edges net) edge → lone_edge_check net edge ≡ accepted
unfolding lone_edge_check
lone-edge-accept net edge b = unless-accepts _ NoEdge 0 (true-between 1 (edges net) edge b.from b.to)

pub edges-accepted : (net : Network) (es : List ℕ) → event_edges_check net es ≡ accepted → (k : ℕ) → k < length es → Between 1 (edges net) (get_or es k 0)
unfolding event_edges_check
edges-accepted net es e k h = between-true 1 (edges net) (get_or es k 0) (good-below NoEdge _ (length es) e k h)

pub edges-accept : (net : Network) (es : List ℕ) → ((k : ℕ) → k < length es → Between 1 (edges net) (get_or es k 0)) → event_edges_check net es ≡ accepted
unfolding event_edges_check
edges-accept net es b =
    below-good NoEdge _ (length es) (λ k h. true-between 1 (edges net) (get_or es k 0) (b k h).from (b k h).to)

-- 12: every set number is up to the limit
pub set-numbers-accepted : (sets : List ℕ) → set_numbers_check sets ≡ accepted → (k : ℕ) → k < length sets → get_or sets k 0 ≤ max_set
unfolding set_numbers_check
set-numbers-accepted sets e k h = leb-true _ _ (good-below BadSet _ (length sets) e k h)

pub set-numbers-accept : (sets : List ℕ) → ((k : ℕ) → k < length sets → get_or sets k 0 ≤ max_set) → set_numbers_check sets ≡ accepted
unfolding set_numbers_check
set-numbers-accept sets l = below-good BadSet _ (length sets) (λ k h. le-leb _ _ (l k h))

-- 14: the offset is not beyond its edge
pub lone-offset-accepted : (net : Network) (edge offset : ℕ) → lone_offset_check net edge offset ≡ accepted → offset ≤ size net (pred edge)
unfolding lone_offset_check
lone-offset-accepted net edge offset e = leb-true _ _ (unless-accepted _ BeyondEdge 0 e)

pub lone-offset-accept : (net : Network) (edge offset : ℕ) → offset ≤ size net (pred edge) → lone_offset_check net edge offset ≡ accepted
unfolding lone_offset_check
lone-offset-accept net edge offset l = unless-accepts _ BeyondEdge 0 (le-leb _ _ l)

pub offsets-accepted : (net : Network) (es xs : List ℕ) → event_offsets_check net es xs ≡ accepted → (k : ℕ) → k < length es → get_or xs k 0 ≤ size net (pred (get_or es k 0))
unfolding event_offsets_check
offsets-accepted net es xs e k h = leb-true _ _ (good-below BeyondEdge _ (length es) e k h)

pub offsets-accept : (net : Network) (es xs : List ℕ) → ((k : ℕ) → k < length es → get_or xs k 0 ≤ size net (pred (get_or es k 0))) → event_offsets_check net es xs ≡ accepted
unfolding event_offsets_check
offsets-accept net es xs l = below-good BeyondEdge _ (length es) (λ k h. le-leb _ _ (l k h))

-- 15
pub count-accepted : (n : ℕ) → event_count_check n ≡ accepted → n ≤ max_events
unfolding event_count_check
count-accepted n e = leb-true _ _ (unless-accepted _ TooManyEvents max_events e)

pub count-accept : (n : ℕ) → n ≤ max_events → event_count_check n ≡ accepted
unfolding event_count_check
count-accept n l = unless-accepts _ TooManyEvents max_events (le-leb _ _ l)

-- 16: the comparison sets up to the greatest are as large as set 0
pub equal-sets-accepted : (sets : List ℕ) → equal_sets_check sets ≡ accepted → (s : ℕ) → 1 ≤ s → s ≤ greatest_set_of sets → set_size sets s ≡ set_size sets 0
unfolding equal_sets_check
equal-sets-accepted sets e s l u = eqb-true _ _ (good-at UnequalSets _ 1 (greatest_set_of sets) e s l (omega arith))

pub equal-sets-accept : (sets : List ℕ) → ((s : ℕ) → 1 ≤ s → s ≤ greatest_set_of sets → set_size sets s ≡ set_size sets 0) → equal_sets_check sets ≡ accepted
unfolding equal_sets_check
equal-sets-accept sets same = all-good UnequalSets _ 1 (greatest_set_of sets) (λ s l u. eq-eqb _ _ (same s l (omega arith)))

-- 17: no event comes before its forerunner
pub order-accepted : (es xs : List ℕ) → order_check es xs ≡ accepted → (k : ℕ) → suc k < length es → before (event (get_or es (suc k) 0) (get_or xs (suc k) 0)) (event (get_or es k 0) (get_or xs k 0)) ≡ false
unfolding order_check
order-accepted es xs e k h = not-true _ (good-behind NotInOrder _ (length es) e k h)

pub order-accept : (es xs : List ℕ) → ((k : ℕ) → suc k < length es → before (event (get_or es (suc k) 0) (get_or xs (suc k) 0)) (event (get_or es k 0) (get_or xs k 0)) ≡ false) → order_check es xs ≡ accepted
unfolding order_check
order-accept es xs o = behind-good NotInOrder _ (length es) (λ k h. ap not (o k h))

-- so the events are in order
pub in_order : (es xs : List ℕ) → length es ≡ length xs → ((k : ℕ) → suc k < length es → before (event (get_or es (suc k) 0) (get_or xs (suc k) 0)) (event (get_or es k 0) (get_or xs k 0)) ≡ false) → InOrder (events es xs)
unfolding events
in_order [] xs e h = empty
in_order (a ∷ es) [] e h = empty
in_order (a ∷ []) (x ∷ xs) e h = one
in_order (a ∷ b ∷ es) (x ∷ []) e h = one
in_order (a ∷ b ∷ es) (x ∷ y ∷ xs) e h = more (h 0 (omega arith)) (in_order (b ∷ es) (y ∷ xs) (omega arith) (λ k u. h (suc k) (omega arith)))

-- and of events in order none comes before its forerunner
pub order-in : (es xs : List ℕ) → length es ≡ length xs → InOrder (events es xs) → (k : ℕ) → suc k < length es → before (event (get_or es (suc k) 0) (get_or xs (suc k) 0)) (event (get_or es k 0) (get_or xs k 0)) ≡ false
unfolding events
order-in [] xs e o k h = absurd (omega arith)
order-in (a ∷ es) [] e o k h = absurd (omega arith)
order-in (a ∷ []) (x ∷ xs) e o k h = absurd (omega arith)
order-in (a ∷ b ∷ es) (x ∷ []) e o k h = absurd (omega arith)
order-in (a ∷ b ∷ es) (x ∷ y ∷ xs) e (more s o) zero h = s
order-in (a ∷ b ∷ es) (x ∷ y ∷ xs) e (more s o) (suc k) h = order-in (b ∷ es) (y ∷ xs) (omega arith) o k (omega arith)

-- 18
pub threshold-count-accepted : (n : ℕ) → threshold_count_check n ≡ accepted → Between 1 max_thresholds n
unfolding threshold_count_check
threshold-count-accepted n e =
    let both = both-accepted _ _ e in
    record {
      from = leb-true _ _ (unless-accepted _ BadThresholds 0 both.0);
      to = leb-true _ _ (unless-accepted _ BadThresholds max_thresholds both.1);
    }

pub threshold-count-accept : (n : ℕ) → Between 1 max_thresholds n → threshold_count_check n ≡ accepted
unfolding threshold_count_check
threshold-count-accept n b =
    both-accept (unless-accepts _ BadThresholds 0 (le-leb _ _ b.from))
    (unless-accepts _ BadThresholds max_thresholds (le-leb _ _ b.to))

-- 19: each threshold is above its forerunner
pub rising-accepted : (ts : List ℕ) → rising_check ts ≡ accepted → (k : ℕ) → suc k < length ts → get_or ts k 0 < get_or ts (suc k) 0
unfolding rising_check
rising-accepted ts e k h = ltb-true _ _ (good-behind NotRising _ (length ts) e k h)

pub rising-accept : (ts : List ℕ) → ((k : ℕ) → suc k < length ts → get_or ts k 0 < get_or ts (suc k) 0) → rising_check ts ≡ accepted
unfolding rising_check
rising-accept ts l = behind-good NotRising _ (length ts) (λ k h. lt-ltb _ _ (l k h))
