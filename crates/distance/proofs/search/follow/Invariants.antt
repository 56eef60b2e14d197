-- `follow`: see proofs/Going.
use mathlib.Core.Path.{◌≡◌}
use lib.ListN.{length}
use Rattle.model.specs.Network.{network_of}
use Rattle.distance.proofs.Going.{Going}
use Rattle.distance.proofs.search.follow.Given as goal

abbrev pub invariant-loop-h : goal.invariant-loop-h
invariant-loop-h l =
    Going (network_of l.network) l.last l.next l.source l.bound l.dist l.front l.keys l.slots l.waiting l.picked l.v l.least l.h ×
    (length l.dist ≡ length l.initial.dist) ×
    (length l.front ≡ length l.initial.front) ×
    (length l.keys ≡ length l.initial.keys) ×
    (length l.slots ≡ length l.initial.slots)

abbrev pub decreases-loop-h : goal.decreases-loop-h
decreases-loop-h l =
    l.h
