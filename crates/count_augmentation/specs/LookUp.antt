-- What is looked up of a run's stored numbers for an event on an edge, whatever the lists hold. A reach is 0 where nothing is reached,
-- else one more than the greatest gap that is.
use Rattle.std.specs.Prelude.{cond, List, ℕ, zero, suc, ◌+◌, ◌-◌, ◌/◌, min, eqb, ltb, length, get_or}
use Rattle.model.specs.Counting.{sum_below, covered}
use Rattle.model.specs.Location.{Side, at_first, at_second}
use Rattle.edge_pair.specs.declared.edges.EdgePair.{EdgePair}
use Rattle.edge_pair.specs.Ways.{to_end_of}

-- the place from which on offsets are not below a limit, looked for among so many places from low on: what one halving makes of low,
-- and what n halvings make of it
unfoldable pub half_way : List ℕ → ℕ → ℕ → ℕ → ℕ
half_way xs limit low left = low + cond (ltb (get_or xs (low + (left - left / 2) - 1) 0) limit) (left - left / 2) 0

unfoldable pub halved_to : List ℕ → ℕ → ℕ → ℕ → ℕ → ℕ
halved_to xs limit zero low left = low
halved_to xs limit (suc n) low left = halved_to xs limit n (half_way xs limit low left) (left / 2)

-- as many halvings as there are places leave none of them, and more change nothing
unfoldable pub place_among_of : List ℕ → ℕ → ℕ → ℕ → ℕ
place_among_of xs limit low left = halved_to xs limit left low left

-- of the whole list; where the offsets rise, so many are below the limit (place-counts of proofs/Laws/Halving)
unfoldable pub place_of : List ℕ → ℕ → ℕ
place_of xs limit = place_among_of xs limit 0 (length xs)

-- the number stored with the event before a place, 0 before the first
unfoldable pub stored_before : List ℕ → ℕ → ℕ
stored_before near zero = 0
stored_before near (suc k) = get_or near k 0

-- the number stored with the last event, 0 if there is none
abbrev pub stored_last : List ℕ → ℕ
stored_last near = stored_before near (length near)

-- what is read for the first end of the offsets below a limit, and for the second of those from it on
abbrev pub read_below_of : List ℕ → List ℕ → ℕ → ℕ
read_below_of xs near limit = stored_before near (place_of xs limit)

abbrev pub read_from : List ℕ → List ℕ → ℕ → ℕ
read_from xs near limit = get_or near (place_of xs limit) 0

-- what is read for the ends of an edge of length q, by a reach from there
unfoldable pub read_first : List ℕ → List ℕ → ℕ → ℕ
read_first xs near reach = cond (eqb reach 0) 0 (read_below_of xs near reach)

unfoldable pub read_second : ℕ → List ℕ → List ℕ → ℕ → ℕ
read_second q xs near reach = cond (eqb reach 0) 0 (read_from xs near (suc q - reach))

-- both, at most all of the run
unfoldable pub looked_by_ends : ℕ → ℕ → ℕ → List ℕ → List ℕ → List ℕ → ℕ
looked_by_ends q to-first to-second ys near_first near-second =
    min (read_first ys near_first to-first + read_second q ys near-second to-second) (length ys)

-- and with them the window around x on its own edge
unfoldable pub looked_around : ℕ → ℕ → ℕ → ℕ → ℕ → List ℕ → List ℕ → List ℕ → ℕ
looked_around q to-first to-second t x ys near_first near-second =
    covered (length ys) (read_first ys near_first to-first) (read_second q ys near-second to-second) (length ys - read_from ys near-second (x - t)) (read_below_of ys near_first (x + t + 1))

-- how far the offset x of the first edge reaches along the second, from an end of it
unfoldable pub reach_from : EdgePair → ℕ → Side → ℕ → ℕ
reach_from w t s' x = suc t - to_end_of w s' x

-- what is looked up where not all of the second edge is within reach of its ends
unfoldable pub looked_part : EdgePair → ℕ → ℕ → List ℕ → List ℕ → List ℕ → ℕ
looked_part w t x ys near_first near-second =
    cond w.same
    (looked_around w.length2 (reach_from w t at_first x) (reach_from w t at_second x) t x ys near_first near-second)
    (looked_by_ends w.length2 (reach_from w t at_first x) (reach_from w t at_second x) ys near_first near-second)

-- where it is, the number stored with the last event
unfoldable pub looked_up_by : EdgePair → ℕ → ℕ → List ℕ → List ℕ → List ℕ → ℕ
looked_up_by w t x ys near_first near-second =
    cond (ltb w.length2 (reach_from w t at_first x + reach_from w t at_second x)) (stored_last near_first) (looked_part w t x ys near_first near-second)

-- the same for all of a run
unfoldable pub looked_up_pairs : EdgePair → ℕ → List ℕ → List ℕ → List ℕ → List ℕ → ℕ
looked_up_pairs w t xs ys near_first near-second = sum_below (length xs) (λ i. looked_up_by w t (get_or xs i 0) ys near_first near-second)
