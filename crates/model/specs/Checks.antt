-- The checks of lent lists: document 01's list, read from top to bottom, then put together in its order.
-- The lowest number decides, then the lowest place. Number 8 no longer occurs (02, item 3).
use Rattle.std.specs.Prelude.{◌&&◌, not, List, ℕ, pred, eqb, leb, ltb, length, get_or}
use Rattle.model.specs.Network.{Network, edges, first, second, size}
use Rattle.model.specs.Events.{event, before, set_size, greatest_set_of}
use Rattle.model.specs.Limits.{max_nodes, max_edges, max_length, max_events, max_set, max_thresholds}
use Rattle.model.specs.Refusal.{or_else, unless, first_bad, first_bad_from, is_between_of, Check, accepted}
use Rattle.model.specs.declared.refusal.Fault.TheVariants.{ListsDiffer, BadSizes, BadNode, BadLength, BadSet, NoEdge, BeyondEdge, TooManyEvents, UnequalSets, NotInOrder, BadThresholds, NotRising}

-- 2: two lists that belong together differ in length
unfoldable pub same_length_of : List ℕ → List ℕ → Check
same_length_of xs ys = unless (eqb (length xs) (length ys)) ListsDiffer 0

-- 2: an answer list is too short for so many entries
unfoldable pub room_check : ℕ → List ℕ → Check
room_check n answers = unless (leb n (length answers)) ListsDiffer 0

-- 6: nodes or edges outside their limits
unfoldable pub sizes_check : ℕ → ℕ → Check
sizes_check nodes edges = unless (is_between_of 1 max_nodes nodes && is_between_of 1 max_edges edges) BadSizes 0

-- 7: an edge ends at no node
unfoldable pub nodes_check : Network → Check
nodes_check net =
    first_bad BadNode (λ i. is_between_of 1 net.nodes (first net i) && is_between_of 1 net.nodes (second net i)) (edges net)

-- 9: a length outside its limits
unfoldable pub lengths_check : Network → Check
lengths_check net = first_bad BadLength (λ i. is_between_of 1 max_length (size net i)) (edges net)

-- 12: a set number above the greatest
unfoldable pub set_numbers_check : List ℕ → Check
set_numbers_check sets = first_bad BadSet (λ k. leb (get_or sets k 0) max_set) (length sets)

-- 13: an edge number names no edge
unfoldable pub event_edges_check : Network → List ℕ → Check
event_edges_check net es = first_bad NoEdge (λ k. is_between_of 1 (edges net) (get_or es k 0)) (length es)

-- 14: an offset beyond its edge
unfoldable pub event_offsets_check : Network → List ℕ → List ℕ → Check
event_offsets_check net es xs = first_bad BeyondEdge (λ k. leb (get_or xs k 0) (size net (pred (get_or es k 0)))) (length es)

-- 15: more events than may be held, at the first surplus one
unfoldable pub event_count_check : ℕ → Check
event_count_check n = unless (leb n max_events) TooManyEvents max_events

-- 16: a comparison set up to the greatest one differs in size from set 0, at the lowest such set
unfoldable pub equal_sets_check : List ℕ → Check
equal_sets_check sets = first_bad_from UnequalSets (λ s. eqb (set_size sets s) (set_size sets 0)) 1 (greatest_set_of sets)

-- 17: an event below its forerunner
unfoldable pub order_check : List ℕ → List ℕ → Check
order_check es xs =
    first_bad_from NotInOrder
    (λ k. not (before (event (get_or es k 0) (get_or xs k 0)) (event (get_or es (pred k) 0) (get_or xs (pred k) 0))))
    1
    (pred (length es))

-- 18: no thresholds (at the end, place 0) or more than may be given (at the first surplus one)
unfoldable pub threshold_count_check : ℕ → Check
threshold_count_check n =
    or_else (unless (leb 1 n) BadThresholds 0) (unless (leb n max_thresholds) BadThresholds max_thresholds)

-- 19: a threshold not above the one before it
unfoldable pub rising_check : List ℕ → Check
rising_check ts = first_bad_from NotRising (λ k. ltb (get_or ts (pred k) 0) (get_or ts k 0)) 1 (pred (length ts))

-- Lone numbers stand at place 0, in front of every place of a list: 7, 13 and 14
unfoldable pub lone_node_check : Network → ℕ → Check
lone_node_check net v = unless (is_between_of 1 net.nodes v) BadNode 0

unfoldable pub lone_edge_check : Network → ℕ → Check
lone_edge_check net edge = unless (is_between_of 1 (edges net) edge) NoEdge 0

unfoldable pub lone_offset_check : Network → ℕ → ℕ → Check
lone_offset_check net edge offset = unless (leb offset (size net (pred edge))) BeyondEdge 0

-- 2 for the lists of a network, for a set's events and for events with set numbers
unfoldable pub network_lists : Network → Check
network_lists net = or_else (same_length_of net.firsts net.lengths) (same_length_of net.seconds net.lengths)

unfoldable pub event_lists : List ℕ → List ℕ → Check
event_lists es xs = same_length_of es xs

unfoldable pub set_lists : List ℕ → List ℕ → List ℕ → Check
set_lists sets es xs = or_else (same_length_of sets es) (event_lists es xs)

-- 6, 7 and 9; lone is the check of lone nodes, if any
unfoldable pub network_values : Check → Network → Check
network_values lone net =
    or_else (sizes_check net.nodes (edges net)) (or_else lone (or_else (nodes_check net) (lengths_check net)))

-- a network alone
unfoldable pub network_check : Network → Check
network_check net = or_else (network_lists net) (network_values accepted net)

-- a network and two lone nodes
unfoldable pub nodes_over_network_check : Network → ℕ → ℕ → Check
nodes_over_network_check net u v =
    or_else (network_lists net) (network_values (or_else (lone_node_check net u) (lone_node_check net v)) net)

-- a network and two lone locations, each an edge number and an offset
unfoldable pub locations_over_network_check : Network → ℕ → ℕ → ℕ → ℕ → Check
locations_over_network_check net e x f y =
    or_else (network_check net)
    (or_else (lone_edge_check net e)
    (or_else (lone_edge_check net f) (or_else (lone_offset_check net e x) (lone_offset_check net f y))))

-- 13 to 15 for events of one set over a network
unfoldable pub event_values : Network → List ℕ → List ℕ → Check
event_values net es xs = or_else (event_edges_check net es) (or_else (event_offsets_check net es xs) (event_count_check (length es)))

-- one set in any order, over a network
unfoldable pub set_check : Network → List ℕ → List ℕ → Check
set_check net es xs =
    or_else (network_lists net)
    (or_else (event_lists es xs) (or_else (network_values accepted net) (event_values net es xs)))

-- one set given as laid out, over a network, and the number of one edge
unfoldable pub laid_out_check : Network → List ℕ → List ℕ → ℕ → Check
laid_out_check net es xs edge =
    or_else (network_lists net)
    (or_else (event_lists es xs)
    (or_else (network_values accepted net)
    (or_else (lone_edge_check net edge) (or_else (event_values net es xs) (order_check es xs)))))

-- all sets, in any order, over a network
unfoldable pub sets_over_network_check : Network → List ℕ → List ℕ → List ℕ → Check
sets_over_network_check net sets es xs =
    or_else (network_lists net)
    (or_else (set_lists sets es xs)
    (or_else (network_values accepted net)
    (or_else (set_numbers_check sets) (or_else (event_values net es xs) (equal_sets_check sets)))))

-- a threshold list
unfoldable pub thresholds_check : List ℕ → Check
thresholds_check ts = or_else (threshold_count_check (length ts)) (rising_check ts)

-- one set that is to be laid out: no network is lent
unfoldable pub layout_check : List ℕ → List ℕ → Check
layout_check es xs = or_else (event_lists es xs) (event_count_check (length es))
