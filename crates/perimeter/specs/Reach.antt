-- Distances from the centre as the count puts them together: to a node, and to an offset strictly inside an edge.
use Rattle.std.specs.Prelude.{Bool, not, ◌&&◌, ℕ, pred, ◌-◌, ◌^◌, eqb}
use Rattle.model.specs.Counting.{count_if, numbers_from}
use Rattle.model.specs.Distance.{Distance, metres, none, least, plus, exactly}
use Rattle.model.specs.Location.{along_edge_of}

-- what the sums of this crate are made of is at most this, so that they fit
abbrev pub farthest : ℕ
farthest = 2 ^ 34

-- by the first of two ends or by the second: the metres to each end, and how far it is from there
unfoldable pub by_ends_of : ℕ → ℕ → Distance → Distance → Distance
by_ends_of gap1 gap2 end1 end2 = least (plus (metres gap1) end1) (plus (metres gap2) end2)

-- what a distance leaves of the radius
unfoldable pub left_of : ℕ → Distance → ℕ
left_of radius none = 0
left_of radius (metres n) = radius - n

-- to an offset inside an edge: by the two ends of the edge, or along it where the centre lies on it too
unfoldable pub inside_distance : Distance → Distance → ℕ → Bool → ℕ → ℕ → Distance
inside_distance end1 end2 size own offset y = least (by_ends_of y (size - y) end1 end2) (along_edge_of own offset y)

-- how many offsets strictly inside the edge lie at exactly the radius
unfoldable pub insides_at : Distance → Distance → ℕ → Bool → ℕ → ℕ → ℕ
insides_at end1 end2 size own offset radius =
    count_if (λ y. exactly (inside_distance end1 end2 size own offset y) radius) (numbers_from 1 (pred size))

-- passes, and is not the number c
unfoldable pub unseen : ℕ → (ℕ → Bool) → ℕ → Bool
unseen c test y = not (eqb c y) && test y
