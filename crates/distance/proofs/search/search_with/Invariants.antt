-- `search_with`: see proofs/Turns for its start and its picks, proofs/Least for its scan, proofs/Stops for its end.
use Prim.Native.Nat.{◌-◌, ◌≤◌}
use Rattle.distance.proofs.Turns.{Turn}
use Rattle.distance.specs.Keys.{Least}
use Rattle.model.specs.Network.{network_of}
use lib.ListN.{length}
use mathlib.Core.Path.{◌≡◌}
use Rattle.distance.proofs.search.search_with.Given as goal

abbrev pub invariant-loop-k : goal.invariant-loop-k
invariant-loop-k l = (l.k ≤ l.len) × (1 ≤ l.len → Least l.keys l.len 0 l.k l.key)

abbrev pub decreases-loop-k : goal.decreases-loop-k
decreases-loop-k l = l.len - l.k

abbrev pub invariant-picking : goal.invariant-picking
invariant-picking l =
    Turn (network_of l.network) l.last l.next l.source l.bound l.dist l.front l.keys l.slots l.len l.picked ×
    (length l.dist ≡ length l.initial.dist) ×
    (length l.front ≡ length l.initial.front) ×
    (length l.keys ≡ length l.initial.keys) ×
    (length l.slots ≡ length l.initial.slots)

abbrev pub decreases-picking : goal.decreases-picking
decreases-picking l = l.network.nodes - l.picked
