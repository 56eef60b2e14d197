-- Below the shortest route nothing is reached, so that what is joined at a threshold is what lies within it.
use mathlib.Core.Bool.{cond}
use mathlib.Core.List.{List}
use mathlib.Core.Path.{◌≡◌, sym}
use Prim.Native.Nat.{ℕ, ◌<◌}
use native.Mathlib.Decide.{dec_lt}
use native.Mathlib.Omega.{arith}
use borrow.Author.Tests.{lt-ltb, le-ltb}
use lib.Dec.{ltb}
use Rattle.edge_pair.proofs.Laws.Arrival.{none_below}
use Rattle.edge_pair.specs.Offsets.{EdgesLaid}
use Rattle.edge_pair.specs.Ways.{shortest_route_of}
use Rattle.edge_pair.specs.Within.{reached_pairs}
use Rattle.edge_pair.specs.declared.edges.EdgePair.{EdgePair}
use Rattle.neighbor_sharing.proofs.Laws.Stands.{shared-reached}
use Rattle.neighbor_sharing.specs.Joined.{shared, shared_within}

module _ (t : ℕ) (small : t < 4294967296) (w : EdgePair) where
  pub within-reached : (xs ys : List ℕ) → EdgesLaid w xs ys → shared_within t w xs ys ≡ reached_pairs t w xs ys
  unfolding shared_within
  within-reached xs ys laid = go (dec_lt t (shortest_route_of w))
    where
      go : Dec (t < shortest_route_of w) → cond (ltb t (shortest_route_of w)) 0 (shared t w xs ys) ≡ reached_pairs t w xs ys
      go (yes h) = rw (lt-ltb t (shortest_route_of w) h) (sym (none_below t small w h xs ys))
      go (no h) = rw (le-ltb t (shortest_route_of w) (omega arith)) (shared-reached t w ys small xs laid)
