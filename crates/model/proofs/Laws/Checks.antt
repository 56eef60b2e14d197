-- What acceptance by the checks put together means: every crate above rests on it. `..-accepted` says that what is
-- accepted is within the limits, `..-accepts` that all within the limits is accepted.
use Rattle.model.specs.Refusal.{Check, accepted}
use mathlib.Core.List.{List}
use mathlib.Core.Logic.{⊎_elim}
use mathlib.Core.Path.{◌≡◌, refl}
use Prim.Native.Nat.{ℕ, zero, suc, pred, ◌≤◌, ◌<◌}
use native.Mathlib.Nat.{eq-or-lt_of_le}
use native.Mathlib.Omega.{arith}
use lib.ListN.{length, get_or}
use Rattle.model.proofs.Laws.Refusal.{Between, both-accepted, both-accept}
use Rattle.model.specs.Checks.{network_lists, event_lists, network_values, network_check, nodes_over_network_check, locations_over_network_check, event_values, set_check, laid_out_check, sets_over_network_check, thresholds_check, layout_check}
use Rattle.model.specs.Events.{event, events, IsEvent, InOrder, set_size, greatest_set_of}
use Rattle.model.specs.Limits.{max_nodes, max_edges, max_length, max_events, max_set, max_thresholds}
use Rattle.model.specs.Network.{Network, IsNode, EndsAreNodes, edges, size}
use Rattle.model.proofs.Laws.CheckParts as part

-- a network within its limits: what 2, 6, 7 and 9 leave
pub record IsNetwork (net : Network) : Type 0 where
  pub firsts_length : length net.firsts ≡ edges net
  pub seconds_length : length net.seconds ≡ edges net
  pub nodes-from : 1 ≤ net.nodes
  pub nodes_to : net.nodes ≤ max_nodes
  pub edges-from : 1 ≤ edges net
  pub edges-to : edges net ≤ max_edges
  pub ends : EndsAreNodes net
  pub length_from : (i : ℕ) → i < edges net → 1 ≤ size net i
  pub length_to : (i : ℕ) → i < edges net → size net i ≤ max_length

-- the lists and the values of a network, with the check of lone nodes between them
record Values (lone : Check) (net : Network) : Type 0 where
  is-network : IsNetwork net
  lone-accepted : lone ≡ accepted

values-accepted : (lone : Check) (net : Network) → network_lists net ≡ accepted → network_values lone net ≡ accepted → Values lone net
unfolding network_values
values-accepted lone net lists e =
    let of-lists = part.lists-accepted net lists in
    let from-6 = both-accepted _ _ e in
    let from-lone = both-accepted _ _ from-6.1 in
    let from-7 = both-accepted _ _ from-lone.1 in
    let sizes = part.sizes-accepted _ _ from-6.0 in
    let long = part.lengths-accepted net from-7.1 in
    record {
      is-network = record {
        firsts_length = of-lists.0;
        seconds_length = of-lists.1;
        nodes-from = sizes.0.from;
        nodes_to = sizes.0.to;
        edges-from = sizes.1.from;
        edges-to = sizes.1.to;
        ends = part.ends-accepted net from-7.0;
        length_from = λ i h. (long i h).from;
        length_to = λ i h. (long i h).to;
      };
      lone-accepted = from-lone.0;
    }

pub network-accepted : (net : Network) → network_check net ≡ accepted → IsNetwork net
unfolding network_check
network-accepted net e =
    let both = both-accepted _ _ e in
    (values-accepted accepted net both.0 both.1).is-network

-- the parts of a network within the limits
lists-accept : (net : Network) → IsNetwork net → network_lists net ≡ accepted
lists-accept net n = part.lists-accept net n.firsts_length n.seconds_length

values-accept : (lone : Check) (net : Network) → IsNetwork net → lone ≡ accepted → network_values lone net ≡ accepted
unfolding network_values
values-accept lone net n accepted =
    both-accept (part.sizes-accept _ _ (record { from = n.nodes-from; to = n.nodes_to }) (record { from = n.edges-from; to = n.edges-to }))
    (both-accept accepted
    (both-accept (part.ends-accept net n.ends)
    (part.lengths-accept net (λ i h. record { from = n.length_from i h; to = n.length_to i h }))))

-- and back: nothing else is refused
pub network-accepts : (net : Network) → IsNetwork net → network_check net ≡ accepted
unfolding network_check
network-accepts net n = both-accept (lists-accept net n) (values-accept accepted net n refl)

-- a network and two lone nodes
pub record NodesAccepted (net : Network) (u v : ℕ) : Type 0 where
  pub is-network : IsNetwork net
  pub first-node : IsNode net u
  pub second-node : IsNode net v

pub nodes-accepted : (net : Network) (u v : ℕ) → nodes_over_network_check net u v ≡ accepted → NodesAccepted net u v
unfolding nodes_over_network_check
nodes-accepted net u v e =
    let both = both-accepted _ _ e in
    let values = values-accepted _ net both.0 both.1 in
    let lone = both-accepted _ _ values.lone-accepted in
    record {
      is-network = values.is-network;
      first-node = part.lone-node-accepted net u lone.0;
      second-node = part.lone-node-accepted net v lone.1;
    }

pub nodes-accepts : (net : Network) (u v : ℕ) → NodesAccepted net u v → nodes_over_network_check net u v ≡ accepted
unfolding nodes_over_network_check
nodes-accepts net u v a =
    both-accept (lists-accept net a.is-network)
    (values-accept _ net a.is-network
    (both-accept (part.lone-node-accept net u a.first-node) (part.lone-node-accept net v a.second-node)))

-- a network and two lone locations, each an edge number and an offset
pub record LocationsAccepted (net : Network) (e x f y : ℕ) : Type 0 where
  pub is-network : IsNetwork net
  pub first-location : IsEvent net (event e x)
  pub second-location : IsEvent net (event f y)

-- an edge number and an offset that 13 and 14 leave
on_edge : (net : Network) (e x : ℕ) → Between 1 (edges net) e → x ≤ size net (pred e) → IsEvent net (event e x)
on_edge net e x named within = record { from_one = named.from; to_edges = named.to; on_edge = within }

-- the edge number of an event is one that 13 leaves
named-edge : (net : Network) (e x : ℕ) → IsEvent net (event e x) → Between 1 (edges net) e
named-edge net e x is = record { from = is.from_one; to = is.to_edges }

pub locations-accepted : (net : Network) (e x f y : ℕ) → locations_over_network_check net e x f y ≡ accepted → LocationsAccepted net e x f y
unfolding locations_over_network_check
locations-accepted net e x f y h =
    let lone = both-accepted _ _ h in
    let named-e = both-accepted _ _ lone.1 in
    let named-f = both-accepted _ _ named-e.1 in
    let offsets = both-accepted _ _ named-f.1 in
    record {
      is-network = network-accepted net lone.0;
      first-location = on_edge net e x (part.lone-edge-accepted net e named-e.0) (part.lone-offset-accepted net e x offsets.0);
      second-location = on_edge net f y (part.lone-edge-accepted net f named-f.0) (part.lone-offset-accepted net f y offsets.1);
    }

pub locations-accepts : (net : Network) (e x f y : ℕ) → LocationsAccepted net e x f y → locations_over_network_check net e x f y ≡ accepted
unfolding locations_over_network_check
locations-accepts net e x f y a =
    both-accept (network-accepts net a.is-network)
    (both-accept (part.lone-edge-accept net e (named-edge net e x a.first-location))
    (both-accept (part.lone-edge-accept net f (named-edge net f y a.second-location))
    (both-accept (part.lone-offset-accept net e x a.first-location.on_edge)
    (part.lone-offset-accept net f y a.second-location.on_edge))))

-- the events of an edge list and an offset list: what 2 and 13 to 15 leave
pub record AreEvents (net : Network) (es xs : List ℕ) : Type 0 where
  pub same_length : length es ≡ length xs
  pub event-at : (k : ℕ) → k < length es → IsEvent net (event (get_or es k 0) (get_or xs k 0))
  pub few : length es ≤ max_events

are-events : (net : Network) (es xs : List ℕ) → length es ≡ length xs → event_values net es xs ≡ accepted → AreEvents net es xs
unfolding event_values
are-events net es xs same e =
    let named = both-accepted _ _ e in
    let rest = both-accepted _ _ named.1 in
    record {
      same_length = same;
      event-at = λ k h. on_edge net _ _ (part.edges-accepted net es named.0 k h) (part.offsets-accepted net es xs rest.0 k h);
      few = part.count-accepted (length es) rest.1;
    }

pub events-accept : (net : Network) (es xs : List ℕ) → AreEvents net es xs → event_values net es xs ≡ accepted
unfolding event_values
events-accept net es xs a =
    both-accept (part.edges-accept net es (λ k h. named-edge net _ _ (a.event-at k h)))
    (both-accept (part.offsets-accept net es xs (λ k h. (a.event-at k h).on_edge)) (part.count-accept (length es) a.few))

-- one set in any order
pub record SetAccepted (net : Network) (es xs : List ℕ) : Type 0 where
  pub is-network : IsNetwork net
  pub are-events : AreEvents net es xs

pub set-accepted : (net : Network) (es xs : List ℕ) → set_check net es xs ≡ accepted → SetAccepted net es xs
unfolding set_check event_lists
set-accepted net es xs e =
    let lists = both-accepted _ _ e in
    let same = both-accepted _ _ lists.1 in
    let values = both-accepted _ _ same.1 in
    record {
      is-network = (values-accepted accepted net lists.0 values.0).is-network;
      are-events = are-events net es xs (part.same-length-accepted es xs same.0) values.1;
    }

pub set-accepts : (net : Network) (es xs : List ℕ) → SetAccepted net es xs → set_check net es xs ≡ accepted
unfolding set_check event_lists
set-accepts net es xs a =
    both-accept (lists-accept net a.is-network)
    (both-accept (part.same-length-accepts es xs a.are-events.same_length)
    (both-accept (values-accept accepted net a.is-network refl) (events-accept net es xs a.are-events)))

-- one set given as laid out, and the number of one edge
pub record LaidOutAccepted (net : Network) (es xs : List ℕ) (edge : ℕ) : Type 0 where
  pub is-network : IsNetwork net
  pub are-events : AreEvents net es xs
  pub is_edge : Between 1 (edges net) edge
  pub in_order : InOrder (events es xs)

pub laid-out-accepted : (net : Network) (es xs : List ℕ) (edge : ℕ) → laid_out_check net es xs edge ≡ accepted → LaidOutAccepted net es xs edge
unfolding laid_out_check event_lists
laid-out-accepted net es xs edge e =
    let lists = both-accepted _ _ e in
    let same = both-accepted _ _ lists.1 in
    let values = both-accepted _ _ same.1 in
    let named = both-accepted _ _ values.1 in
    let rest = both-accepted _ _ named.1 in
    let long = part.same-length-accepted es xs same.0 in
    record {
      is-network = (values-accepted accepted net lists.0 values.0).is-network;
      are-events = are-events net es xs long rest.0;
      is_edge = part.lone-edge-accepted net edge named.0;
      in_order = part.in_order es xs long (part.order-accepted es xs rest.1);
    }

pub laid-out-accepts : (net : Network) (es xs : List ℕ) (edge : ℕ) → LaidOutAccepted net es xs edge → laid_out_check net es xs edge ≡ accepted
unfolding laid_out_check event_lists
laid-out-accepts net es xs edge a =
    both-accept (lists-accept net a.is-network)
    (both-accept (part.same-length-accepts es xs a.are-events.same_length)
    (both-accept (values-accept accepted net a.is-network refl)
    (both-accept (part.lone-edge-accept net edge a.is_edge)
    (both-accept (events-accept net es xs a.are-events)
    (part.order-accept es xs (part.order-in es xs a.are-events.same_length a.in_order))))))

-- all sets
pub record SetsAccepted (net : Network) (sets es xs : List ℕ) : Type 0 where
  pub is-network : IsNetwork net
  pub are-events : AreEvents net es xs
  pub sets_length : length sets ≡ length es
  pub numbers : (k : ℕ) → k < length sets → get_or sets k 0 ≤ max_set
  pub equal : (s : ℕ) → 1 ≤ s → s ≤ greatest_set_of sets → set_size sets s ≡ set_size sets 0

pub sets-accepted : (net : Network) (sets es xs : List ℕ) → sets_over_network_check net sets es xs ≡ accepted → SetsAccepted net sets es xs
unfolding sets_over_network_check
sets-accepted net sets es xs e =
    let lists = both-accepted _ _ e in
    let same = both-accepted _ _ lists.1 in
    let values = both-accepted _ _ same.1 in
    let numbers = both-accepted _ _ values.1 in
    let rest = both-accepted _ _ numbers.1 in
    let long = part.set-lists-accepted sets es xs same.0 in
    record {
      is-network = (values-accepted accepted net lists.0 values.0).is-network;
      are-events = are-events net es xs long.1 rest.0;
      sets_length = long.0;
      numbers = part.set-numbers-accepted sets numbers.0;
      equal = part.equal-sets-accepted sets rest.1;
    }

pub sets-accepts : (net : Network) (sets es xs : List ℕ) → SetsAccepted net sets es xs → sets_over_network_check net sets es xs ≡ accepted
unfolding sets_over_network_check
sets-accepts net sets es xs a =
    both-accept (lists-accept net a.is-network)
    (both-accept (part.set-lists-accept sets es xs a.sets_length a.are-events.same_length)
    (both-accept (values-accept accepted net a.is-network refl)
    (both-accept (part.set-numbers-accept sets a.numbers)
    (both-accept (events-accept net es xs a.are-events) (part.equal-sets-accept sets a.equal)))))

-- a threshold list: each above its forerunner
pub record ThresholdsAccepted (ts : List ℕ) : Type 0 where
  pub some : 1 ≤ length ts
  pub few : length ts ≤ max_thresholds
  pub rising : (k : ℕ) → suc k < length ts → get_or ts k 0 < get_or ts (suc k) 0

pub thresholds-accepted : (ts : List ℕ) → thresholds_check ts ≡ accepted → ThresholdsAccepted ts
unfolding thresholds_check
thresholds-accepted ts e =
    let both = both-accepted _ _ e in
    let count = part.threshold-count-accepted (length ts) both.0 in
    record { some = count.from; few = count.to; rising = part.rising-accepted ts both.1 }

pub thresholds-accepts : (ts : List ℕ) → ThresholdsAccepted ts → thresholds_check ts ≡ accepted
unfolding thresholds_check
thresholds-accepts ts a =
    both-accept (part.threshold-count-accept (length ts) (record { from = a.some; to = a.few })) (part.rising-accept ts a.rising)

-- so each is above all before it
pub thresholds-rise : (ts : List ℕ) → ThresholdsAccepted ts → (i j : ℕ) → i < j → j < length ts → get_or ts i 0 < get_or ts j 0
thresholds-rise ts a i zero l h = absurd (omega arith)
thresholds-rise ts a i (suc j) l h =
    let last = a.rising j h in
    ⊎_elim (λ same. rw same last)
    (λ less. omega (arith, thresholds-rise ts a i j less (omega arith)))
    (eq-or-lt_of_le {n = i} {m = j} (omega arith))

-- one set that is to be laid out
pub record LayoutAccepted (es xs : List ℕ) : Type 0 where
  pub same_length : length es ≡ length xs
  pub few : length es ≤ max_events

pub layout-accepted : (es xs : List ℕ) → layout_check es xs ≡ accepted → LayoutAccepted es xs
unfolding layout_check event_lists
layout-accepted es xs e =
    let both = both-accepted _ _ e in
    record { same_length = part.same-length-accepted es xs both.0; few = part.count-accepted (length es) both.1 }

pub layout-accepts : (es xs : List ℕ) → LayoutAccepted es xs → layout_check es xs ≡ accepted
unfolding layout_check event_lists
layout-accepts es xs a = both-accept (part.same-length-accepts es xs a.same_length) (part.count-accept (length es) a.few)
