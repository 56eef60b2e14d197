-- What the perimeter count answers: the number of locations, or a refusal.
use Rattle.std.specs.Prelude.{ℕ, pred, Result}
use Rattle.model.specs.Answer.{answer}
use Rattle.model.specs.Checks.{locations_over_network_check}
use Rattle.model.specs.Location.{location_of}
use Rattle.model.specs.Network.{Network}
use Rattle.model.specs.Perimeter.{perimeter_count_of}
use Rattle.model.specs.declared.refusal.Refusal.{Refusal}

-- 01: the perimeter count at the centre, an edge number and an offset, and the radius. The check is that of two locations, with the
-- centre for both.
unfoldable pub perimeter_answer : Network → ℕ → ℕ → ℕ → Result ℕ Refusal
perimeter_answer net edge offset radius =
    answer (locations_over_network_check net edge offset edge offset)
    (perimeter_count_of net (location_of net (pred edge) offset) radius)
