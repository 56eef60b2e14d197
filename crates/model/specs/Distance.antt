-- A distance: so many metres, or none where no walk exists. 'No walk' is no number, so no threshold admits it.
use Rattle.std.specs.Prelude.{Bool, false, cond, List, [], ◌∷◌, ℕ, zero, suc, ◌+◌, ◌-◌, min, leb, eqb}

pub data Distance : Type 0 where
  metres : ℕ → Distance
  none : Distance

-- the lesser of two distances; none is above every number of metres
unfoldable pub least : Distance → Distance → Distance
least (metres m) (metres n) = metres (min m n)
least (metres m) none = metres m
least none e = e

-- one distance after the other; none where either is
unfoldable pub plus : Distance → Distance → Distance
plus (metres m) (metres n) = metres (m + n)
plus (metres m) none = none
plus none e = none

-- the least of a list of distances, none of an empty one
unfoldable pub least_of : List Distance → Distance
least_of [] = none
least_of (d ∷ ds) = least d (least_of ds)

-- the least of f 0, f 1, .., f (n - 1), none where n is 0
unfoldable pub least_below : ℕ → (ℕ → Distance) → Distance
least_below zero f = none
least_below (suc n) f = least (least_below n f) (f n)

-- the distance is at most t metres
unfoldable pub within : Distance → ℕ → Bool
within (metres n) t = leb n t
within none t = false

-- the distance is exactly t metres
unfoldable pub exactly : Distance → ℕ → Bool
exactly (metres n) t = eqb n t
exactly none t = false

-- the distance if it is at most the bound, else none, which here means 'beyond'
unfoldable pub bounded : ℕ → Distance → Distance
bounded t d = cond (within d t) d none

-- the difference of two numbers, without sign
unfoldable pub difference : ℕ → ℕ → ℕ
difference x y = (x - y) + (y - x)

-- a distance as it stands in an answer list: 0 for none ('no walk' or 'beyond'), else one more than the metres
unfoldable pub code : Distance → ℕ
code none = 0
code (metres n) = suc n

-- the distance that an entry of an answer list stands for: the inverse of `code` (proofs/Laws/Codes)
unfoldable pub decode : ℕ → Distance
decode zero = none
decode (suc n) = metres n
