-- The metres between two places of two edges, and the pairs of two runs by the first step that admits their metres.
use Rattle.std.specs.Prelude.{true, cond, List, ◌≡◌, ℕ, ◌+◌, ◌-◌, min, leb, length, get_or}
use Rattle.model.specs.Counting.{sum_below, count_if}
use Rattle.model.specs.Distance.{difference}
use Rattle.model.specs.Location.{at_first, at_second}
use Rattle.edge_pair.specs.Ways.{to_end_of}
use Rattle.edge_pair.specs.declared.edges.EdgePair.{EdgePair}
use Rattle.range_query.specs.Ladder.{bucket_in}

-- from the offset x of the first edge to the offset y of the second, by its first end or by its second
unfoldable pub by_ends_of : EdgePair → ℕ → ℕ → ℕ
by_ends_of w x y = min (to_end_of w at_first x + y) (to_end_of w at_second x + (w.length2 - y))

-- or along it, where the two edges are one
unfoldable pub metres_between : EdgePair → ℕ → ℕ → ℕ
metres_between w x y = cond w.same (min (by_ends_of w x y) (difference x y)) (by_ends_of w x y)

-- the two edges are one, and the ways onward and back are alike: two places are as far apart one way as the other
pub record Mirrored (w : EdgePair) : Type 0 where
  pub one : w.same ≡ true
  pub alike_long : w.length1 ≡ w.length2
  pub alike_codes : w.fs ≡ w.sf

-- the ordered pairs of an event of a run on the first edge and one of a run on the second whose metres fall in a bucket up to number k
unfoldable pub tallied : List ℕ → EdgePair → List ℕ → List ℕ → ℕ → ℕ
tallied ladder w xs ys k = sum_below (length xs) (λ i. count_if (λ y. leb (bucket_in ladder (metres_between w (get_or xs i 0) y)) k) ys)
