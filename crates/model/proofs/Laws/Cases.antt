-- P1 to P10 of document 01, and the cases of a loop, hold of the definitions, by computation.
use mathlib.Core.Path.{refl}
use Rattle.model.specs.Counting.{sum_below, one_if, count_below_of, count_if, numbers_from}
use Rattle.model.specs.Distance.{least, plus, least_of, least_below, within, exactly, difference}
use Rattle.model.specs.NodeDistance.{crossing, direct, through, node_distance_of}
use Rattle.model.specs.Location.{location_of, edge_ends, ends, route, routes, along_edge_of, stretch, location_distance_of}
use Rattle.model.specs.Events.{events, event_location, having, greatest_set_of}
use Rattle.model.specs.PairCount.{event_distance, is_pair, pair_count}
use Rattle.model.specs.Perimeter.{insides, locations, perimeter_count_of}
use Rattle.model.specs.Envelope.{widen, envelope_of, count_of_set, observed, envelope}
use Rattle.model.specs.Refusal.{or_else, unless, first_bad, first_bad_from, is_between_of}
use Rattle.model.specs.Checks.{same_length_of, sizes_check, nodes_check, lengths_check, network_lists, network_values, network_check}
use Rattle.model.specs.Cases.{Cases, LoopCases}

pub cases : Cases
unfolding sum_below one_if count_below_of count_if numbers_from least plus least_of least_below within exactly difference crossing direct through node_distance_of location_of edge_ends ends route routes along_edge_of stretch location_distance_of events event_location having greatest_set_of event_distance is_pair pair_count insides locations perimeter_count_of widen envelope_of count_of_set observed envelope
cases = record { p1_to_p4 = refl; p5_to_p9 = refl; p10 = refl }

pub loop-cases : LoopCases
unfolding sum_below one_if count_below_of count_if numbers_from least plus least_of least_below within exactly difference crossing direct through node_distance_of location_of edge_ends ends route routes along_edge_of stretch location_distance_of events event_location event_distance is_pair pair_count insides locations perimeter_count_of or_else unless first_bad first_bad_from is_between_of same_length_of sizes_check nodes_check lengths_check network_lists network_values network_check
loop-cases = record { accepted = refl; one_place = refl; by_the_node = refl; at_the_node = refl; by_the_first_end = refl; by_the_second_end = refl; around_inside = refl; around_node = refl; pairs = refl }
