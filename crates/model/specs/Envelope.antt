-- Observed count, and the least and greatest over the comparison sets (the envelope), at one threshold.
use mathlib.Core.List.{List, [], ◌∷◌, map, Memᴰ}
use Rattle.std.specs.Prelude.{ℕ, ◌≤◌, min, max}
use Rattle.model.specs.Counting.{numbers_from}
use Rattle.model.specs.Network.{Network}
use Rattle.model.specs.Events.{Event, having, greatest_set_of}
use Rattle.model.specs.PairCount.{pair_count}

-- least and greatest, or no value where there are no comparison sets
pub data Envelope : Type 0 where
  no_value : Envelope
  between : ℕ → ℕ → Envelope

-- one more count taken into an envelope
unfoldable pub widen : ℕ → Envelope → Envelope
widen n no_value = between n n
widen n (between lower upper) = between (min n lower) (max n upper)

unfoldable pub envelope_of : List ℕ → Envelope
envelope_of [] = no_value
envelope_of (n ∷ ns) = widen n (envelope_of ns)

-- what an envelope means: no value where there are no counts; else its ends are two of the counts, and none lies outside of them.
-- Law (proofs/Laws/Envelope): `envelope_of` is such.
pub data Encloses : List ℕ → Envelope → Type 0 where
  nothing : Encloses [] no_value
  through_ends : {ns : List ℕ} {lower upper : ℕ} → Memᴰ lower ns → Memᴰ upper ns → ((n : ℕ) → Memᴰ n ns → (lower ≤ n) × (n ≤ upper)) → Encloses ns (between lower upper)

-- the pair count of set s in a list of events beside the list of their set numbers
unfoldable pub count_of_set : Network → List ℕ → List Event → ℕ → ℕ → ℕ
count_of_set net sets es t s = pair_count net (having s sets es) t

-- set 0 is the observed one
unfoldable pub observed : Network → List ℕ → List Event → ℕ → ℕ
observed net sets es t = count_of_set net sets es t 0

-- the comparison sets are 1 to the greatest set number
unfoldable pub envelope : Network → List ℕ → List Event → ℕ → Envelope
envelope net sets es t = envelope_of (map (count_of_set net sets es t) (numbers_from 1 (greatest_set_of sets)))
