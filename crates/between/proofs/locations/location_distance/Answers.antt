-- `location_distance`: the answer is the check's refusal, or the least of all routes.
use Rattle.std.proofs.Common.{◌∙◌, sym, refl}
use Rattle.model.proofs.Laws.Checks.{locations-accepted}
use Rattle.model.specs.Answer.{answer}
use Rattle.between.specs.Answers.{location_answer}
use Rattle.between.proofs.Routes.{on_edge, located}
use Rattle.between.proofs.locations.location_distance.Goals as goal

pub overflow_sub-i : goal.overflow_sub-i
overflow_sub-i c = (locations-accepted _ _ _ _ _ (sym c.check_locations.ensures ∙ c.in_ok-check_locations.was)).first-location.from_one

pub overflow_sub-j : goal.overflow_sub-j
overflow_sub-j c = (locations-accepted _ _ _ _ _ (sym c.check_locations.ensures ∙ c.in_ok-check_locations.was)).second-location.from_one

pub distance_between-requires : goal.distance_between-requires
distance_between-requires c = let a = locations-accepted _ _ _ _ _ (sym c.check_locations.ensures ∙ c.in_ok-check_locations.was) in
    (on_edge _ _ a.is-network a.first-location, on_edge _ _ a.is-network a.second-location)

pub returns : goal.returns
unfolding location_answer answer
returns c = let passed = sym c.check_locations.ensures ∙ c.in_ok-check_locations.was in
    rw (passed, c.distance_between.ensures, located (locations-accepted _ _ _ _ _ passed)) refl
