-- Document 01's proved cases, P1 to P10, as one table of the definitions; and a second table with a loop.
use Rattle.model.specs.Refusal.{accepted}
use Rattle.std.specs.Prelude.{List, [], ◌∷◌, map, ◌≡◌, ℕ}
use Rattle.model.specs.Network.{Network, network}
use Rattle.model.specs.Distance.{metres}
use Rattle.model.specs.Location.{location_of}
use Rattle.model.specs.Events.{Event, event, events}
use Rattle.model.specs.PairCount.{pair_count, event_distance}
use Rattle.model.specs.Perimeter.{perimeter_count_of}
use Rattle.model.specs.Envelope.{Envelope, between, observed, envelope}
use Rattle.model.specs.Checks.{network_check}

-- 01's full run: edges 1: 1 to 2, 5 m; 2: 2 to 3, 4 m; 3: 3 to 1, 3 m; 4: 3 to 4, 6 m
abbrev pub harbour : Network
harbour = network 4 (1 ∷ 2 ∷ 3 ∷ 3 ∷ []) (2 ∷ 3 ∷ 1 ∷ 4 ∷ []) (5 ∷ 4 ∷ 3 ∷ 6 ∷ [])

abbrev pub harbour_sets : List ℕ
harbour_sets = 0 ∷ 0 ∷ 0 ∷ 0 ∷ 1 ∷ 1 ∷ 1 ∷ 1 ∷ 2 ∷ 2 ∷ 2 ∷ 2 ∷ []

abbrev pub harbour_events : List Event
harbour_events =
    events (1 ∷ 2 ∷ 4 ∷ 1 ∷ 1 ∷ 3 ∷ 4 ∷ 2 ∷ 4 ∷ 4 ∷ 4 ∷ 4 ∷ []) (1 ∷ 3 ∷ 2 ∷ 4 ∷ 0 ∷ 3 ∷ 6 ∷ 0 ∷ 3 ∷ 3 ∷ 3 ∷ 3 ∷ [])

-- P10: edges of 12 and 2 between the same nodes
abbrev pub two_ways : Network
two_ways = network 2 (1 ∷ 1 ∷ []) (2 ∷ 2 ∷ []) (12 ∷ 2 ∷ [])

-- a row of the printed table: observed, then least and greatest
pub record Row : Type 0 where
  pub count : ℕ
  pub span : Envelope

abbrev pub row : ℕ → Row
row t = record { count = observed harbour harbour_sets harbour_events t; span = envelope harbour harbour_sets harbour_events t }

abbrev pub expected : ℕ → ℕ → ℕ → Row
expected n lower upper = record { count = n; span = between lower upper }

-- around the centre on edge 1 at offset 1
abbrev pub around : ℕ → ℕ
around radius = perimeter_count_of harbour (location_of harbour 0 1) radius

pub record Cases : Type 0 where
  pub p1_to_p4 : map row (2 ∷ 3 ∷ 5 ∷ 7 ∷ []) ≡ expected 0 2 12 ∷ expected 4 2 12 ∷ expected 8 6 12 ∷ expected 12 6 12 ∷ []
  pub p5_to_p9 : map around (0 ∷ 4 ∷ 5 ∷ 6 ∷ 11 ∷ []) ≡ 1 ∷ 2 ∷ 3 ∷ 2 ∷ 0 ∷ []
  pub p10 : event_distance two_ways (event 1 1) (event 1 11) ≡ metres 4

-- a turning basin: edges 1: 1 to 1, 10 m; 2: 1 to 2, 4 m
abbrev pub basin : Network
basin = network 2 (1 ∷ 1 ∷ []) (1 ∷ 2 ∷ []) (10 ∷ 4 ∷ [])

-- the perimeter count around the location at an offset of the basin's edge 1
abbrev pub around_basin : ℕ → ℕ → ℕ
around_basin offset radius = perimeter_count_of basin (location_of basin 0 offset) radius

-- three events on its edge 1: two at the node, by offset 0 and by the full length, and one half way round
abbrev pub basin_events : List Event
basin_events = events (1 ∷ 1 ∷ 1 ∷ []) (0 ∷ 5 ∷ 10 ∷ [])

pub record LoopCases : Type 0 where
  pub accepted : network_check basin ≡ accepted
  pub one_place : location_of basin 0 0 ≡ location_of basin 0 10
  pub by_the_node : event_distance basin (event 1 2) (event 1 9) ≡ metres 3
  pub at_the_node : event_distance basin (event 1 0) (event 1 10) ≡ metres 0
  pub by_the_first_end : event_distance basin (event 1 3) (event 2 2) ≡ metres 5
  pub by_the_second_end : event_distance basin (event 1 9) (event 2 2) ≡ metres 3
  pub around_inside : map (around_basin 3) (0 ∷ 5 ∷ []) ≡ 1 ∷ 2 ∷ []
  pub around_node : map (around_basin 10) (4 ∷ 5 ∷ []) ≡ 3 ∷ 1 ∷ []
  pub pairs : map (pair_count basin basin_events) (0 ∷ 4 ∷ 5 ∷ []) ≡ 2 ∷ 2 ∷ 6 ∷ []
