-- The place reached, and the equal entries from there on, are the place behind all of them.
use mathlib.Core.Path.{◌≡◌}
use Prim.Native.Nat.{◌+◌}
use lib.ListN.{drop}
use Rattle.model.specs.Counting.{equals_in_front, equals_end_of}
use Rattle.model.proofs.list.equals_end.Given as goal

abbrev pub invariant-loop-k : goal.invariant-loop-k
invariant-loop-k l = l.k + equals_in_front l.number (drop l.k l.list) ≡ equals_end_of l.list l.from
