-- The verdicts: on the centre, and on the rows of a network that has been accepted.
use Rattle.model.specs.Refusal.{Check, accepted}
use mathlib.Core.List.{List}
use mathlib.Core.Path.{◌≡◌, sym, ◌∙◌}
use Prim.Native.Nat.{ℕ, suc, ◌-◌, ◌≤◌, ◌<◌}
use native.Mathlib.Numerals.{sub-one, one-add}
use native.Mathlib.Omega.{arith}
use lib.ListN.{length}
use Rattle.model.specs.Checks.{network_check, locations_over_network_check}
use Rattle.model.specs.Location.{location_of}
use Rattle.model.specs.Perimeter.{perimeter_count_of}
use Rattle.model.specs.Network.{Network, IsNode, edges, size}
use Rattle.model.proofs.Laws.Checks.{locations-accepted}
use Rattle.model.proofs.Laws.Refusal.{both-accepted}
use Rattle.distance.proofs.Laws.Rows.{row-entry}
use Rattle.distance.specs.Answers.{RowAnswered}
use Rattle.perimeter.specs.Answers.{perimeter_answer}
use Rattle.model.specs.Answer.{answer}
use Rattle.model.specs.declared.refusal.Refusal.{Refusal}
use Rattle.std.specs.Prelude.{Result, Ok}
use Rattle.perimeter.specs.Counts.{IsRow}

-- an accepted centre
pub record CentreAccepted (net : Network) (edge offset : ℕ) : Type 0 where
  pub passed : network_check net ≡ accepted
  pub from_one : 1 ≤ edge
  pub on_edge : edge - 1 < edges net
  pub within : offset ≤ size net (edge - 1)

pub centre-accepted : (net : Network) (edge offset : ℕ) {r : Check} → r ≡ locations_over_network_check net edge offset edge offset → r ≡ accepted → CentreAccepted net edge offset
unfolding locations_over_network_check
centre-accepted net edge offset p q =
    let found = (locations-accepted net edge offset edge offset (sym p ∙ q)).first-location in
    record {
      passed = (both-accepted _ _ (sym p ∙ q)).0;
      from_one = found.from_one;
      on_edge = omega (arith, found.to_edges, found.from_one);
      within = rw sub-one found.on_edge;
    }

-- the answer where the centre is accepted
pub answer-count : (net : Network) (edge offset radius : ℕ) {r : Check} {n : ℕ} → r ≡ locations_over_network_check net edge offset edge offset → r ≡ accepted → n ≡ perimeter_count_of net (location_of net (edge - 1) offset) radius → ◌≡◌ {A = Result ℕ Refusal} (Ok n) (perimeter_answer net edge offset radius)
unfolding perimeter_answer answer
answer-count net edge offset radius p q e = rw (sym p ∙ q, ← sub-one edge, e)

-- the row that is written
pub row_written : {net : Network} {source bound : ℕ} {answers after : List ℕ} {r : Check} → RowAnswered net source bound answers r after → network_check net ≡ accepted → IsNode net source → net.nodes ≤ length answers → IsRow net bound source after
row_written a e h l = record { entry = λ k i. simp one-add (row-entry a e h l (suc k) (record { from_one = omega arith; to_nodes = omega arith })) }
