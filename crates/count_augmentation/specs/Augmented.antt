-- Augmented counts (01: stored numbers): with each event, how many on its edge lie no farther from each end, itself and equals included.
use Rattle.std.specs.Prelude.{List, map, ◌≡◌, ℕ, pred, leb, length, get_or}
use Rattle.model.specs.Answer.{written}
use Rattle.model.specs.Checks.{network_lists, event_lists, network_values, event_values, order_check, room_check}
use Rattle.model.specs.Counting.{count_if, numbers_from}
use Rattle.model.specs.Events.{having}
use Rattle.model.specs.Location.{Side, at_first, at_second, gap}
use Rattle.model.specs.Network.{Network, size}
use Rattle.model.specs.Refusal.{or_else, Check, accepted}

-- of offsets on an edge of length p, how many have a gap to the side that is no greater than that of x
unfoldable pub no_farther : ℕ → Side → List ℕ → ℕ → ℕ
no_farther p side xs x = count_if (λ y. leb (gap p side y) (gap p side x)) xs

-- the stored number of the event at position k
unfoldable pub stored : Network → Side → List ℕ → List ℕ → ℕ → ℕ
stored net side es xs k = no_farther (size net (pred (get_or es k 0))) side (having (get_or es k 0) es xs) (get_or xs k 0)

unfoldable pub augmented : Network → Side → List ℕ → List ℕ → List ℕ
augmented net side es xs = map (stored net side es xs) (numbers_from 0 (length es))

-- 2, 6, 7, 9, 13 to 15, 17
unfoldable pub augment_check : Network → List ℕ → List ℕ → List ℕ → List ℕ → Check
augment_check net es xs near_first near-second =
    or_else (network_lists net)
    (or_else (event_lists es xs)
    (or_else (room_check (length es) near_first)
    (or_else (room_check (length es) near-second)
    (or_else (network_values accepted net) (or_else (event_values net es xs) (order_check es xs))))))

-- the promise of the function that stores them
pub record Augmented (net : Network) (es xs near_first near-second : List ℕ) (r : Check) (near-first' near-second' : List ℕ) : Type 0 where
  pub verdict : r ≡ augment_check net es xs near_first near-second
  pub first_after : near-first' ≡ written (augment_check net es xs near_first near-second) (augmented net at_first es xs) near_first
  pub second_after : near-second' ≡ written (augment_check net es xs near_first near-second) (augmented net at_second es xs) near-second
