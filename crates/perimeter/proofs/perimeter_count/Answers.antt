use Rattle.perimeter.proofs.Verdicts.{centre-accepted, answer-count}
use Rattle.perimeter.proofs.perimeter_count.Goals as goal

pub overflow_sub-edge : goal.overflow_sub-edge
overflow_sub-edge c = (centre-accepted _ _ _ c.check_locations.ensures c.in_ok-check_locations.was).from_one

pub count_around-requires : goal.count_around-requires
count_around-requires c = let centre = centre-accepted _ _ _ c.check_locations.ensures c.in_ok-check_locations.was in
    record { lengths_value = centre.passed; edge_in_bounds = (centre.on_edge, centre.within) }

pub returns : goal.returns
returns c = answer-count _ _ _ _ c.check_locations.ensures c.in_ok-check_locations.was c.count_around.ensures
