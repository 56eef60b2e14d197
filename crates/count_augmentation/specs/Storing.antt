-- The stored numbers of a run: the events of one edge.
use Rattle.std.specs.Prelude.{List, ◌≡◌, ℕ, ◌≤◌, ◌<◌, leb, length, get_or}
use Rattle.model.specs.Counting.{count_if}
use Rattle.model.specs.Limits.{max_events}
use Rattle.model.specs.Location.{at_first, at_second}
use Rattle.count_augmentation.specs.Augmented.{no_farther}

-- those of the events on an edge of length p
pub record NumbersStored (p : ℕ) (xs near_first near-second : List ℕ) : Type 0 where
  pub first_at_of : (k : ℕ) → k < length xs → get_or near_first k 0 ≡ no_farther p at_first xs (get_or xs k 0)
  pub second_at : (k : ℕ) → k < length xs → get_or near-second k 0 ≡ no_farther p at_second xs (get_or xs k 0)

-- how many offsets are at most x, and how many at least x: cited, as what follows, by inner functions alone
unfoldable pub at_most : List ℕ → ℕ → ℕ
at_most xs x = count_if (λ y. leb y x) xs

unfoldable pub at_least : List ℕ → ℕ → ℕ
at_least xs x = count_if (λ y. leb x y) xs

-- offsets that are not too many, and as much room for a list of numbers
pub record Storable (xs near : List ℕ) : Type 0 where
  pub few : length xs ≤ max_events
  pub room : length near ≡ length xs
