-- A text of reports within the limits over a network, no longer than a text may be, is accepted, and the reports are read from it.
use Rattle.model.specs.Refusal.{accepted}
use mathlib.Core.List.{List, map}
use mathlib.Core.Path.{◌≡◌}
use Prim.Native.Nat.{ℕ, ◌≤◌}
use lib.ListN.{length}
use Rattle.model.proofs.Laws.Checks.{network-accepts, sets-accepted}
use Rattle.model.proofs.Laws.Refusal.{both-accepted, both-accept}
use Rattle.model.specs.Checks.{network_check, network_lists, network_values, set_lists, set_numbers_check, event_values, equal_sets_check, sets_over_network_check}
use Rattle.model.specs.Network.{Network}
use Rattle.text.specs.EventText.{Row}
use Rattle.text.specs.Reading.{max_bytes}
use Rattle.text.specs.Texts.{IsEventText}
use Rattle.text.proofs.Laws.EventsRead.{reports-read}
use Rattle.reading.proofs.Laws.Answers.{read-accepted, list-is, short-enough, rooms-accept}
use Rattle.event_reader.specs.Answers.{text_rows, event_file_check, event_text_check}

module _ (net : Network) {all : List Row} {bytes : List ℕ} (is-text : IsEventText all bytes) (good : sets_over_network_check net (map (λ r. r.set) all) (map (λ r. r.edge) all) (map (λ r. r.offset) all) ≡ accepted) where
  pub events-are : text_rows net bytes ≡ all
  unfolding text_rows
  events-are = list-is (reports-read net is-text good)

  -- the network that the reports pass their check over passes its own
  pub over-network : network_check net ≡ accepted
  over-network = network-accepts net (sets-accepted net _ _ _ good).is-network

  equal-sets : equal_sets_check (map (λ r. r.set) all) ≡ accepted
  unfolding sets_over_network_check
  equal-sets =
      let behind-network = (both-accepted (network_lists net) _ good).1 in
      let behind-lists = (both-accepted (set_lists _ _ _) _ behind-network).1 in
      let behind-values = (both-accepted (network_values accepted net) _ behind-lists).1 in
      let behind-numbers = (both-accepted (set_numbers_check _) _ behind-values).1 in
      (both-accepted (event_values net _ _) _ behind-numbers).1

  pub event-file-accepts : length bytes ≤ max_bytes → event_file_check net bytes ≡ accepted
  unfolding event_file_check
  event-file-accepts short =
      both-accept (short-enough bytes short)
      (both-accept over-network (both-accept (read-accepted (reports-read net is-text good)) (rw events-are equal-sets)))

  -- the check that the reader promises, with room in the answer lists
  pub event-text-accepts : length bytes ≤ max_bytes → (sets edges offsets : List ℕ) → length all ≤ length sets → length all ≤ length edges → length all ≤ length offsets → event_text_check net bytes sets edges offsets ≡ accepted
  unfolding event_text_check
  event-text-accepts short sets edges offsets one two three =
      both-accept (event-file-accepts short) (rw events-are (rooms-accept (length all) sets edges offsets one two three))
