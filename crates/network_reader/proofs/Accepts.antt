-- A text of a network within the limits, no longer than a text may be, is accepted, and the network is read from it.
use mathlib.Core.List.{List}
use mathlib.Core.Path.{◌≡◌, ap, ◌∙◌}
use Prim.Native.Nat.{ℕ, ◌≤◌}
use lib.ListN.{length}
use Rattle.model.specs.Refusal.{accepted}
use Rattle.model.proofs.Laws.Refusal.{both-accept}
use Rattle.model.specs.Checks.{network_check}
use Rattle.model.specs.Network.{Network, edges}
use Rattle.text.specs.Reading.{max_bytes}
use Rattle.text.specs.Texts.{IsNetworkText}
use Rattle.text.proofs.Laws.NetworkRead.{network-read, network-back}
use Rattle.reading.proofs.Laws.Answers.{read-accepted, short-enough, rooms-accept}
use Rattle.network_reader.specs.Answers.{network_in, text_network, network_file_check, network_text_check}

module _ {net : Network} {bytes : List ℕ} (is-text : IsNetworkText net bytes) (good : network_check net ≡ accepted) where
  pub network-is : text_network bytes ≡ net
  unfolding text_network network_in
  network-is = ap network_in (network-read is-text good) ∙ network-back net good

  pub network-file-accepts : length bytes ≤ max_bytes → network_file_check bytes ≡ accepted
  unfolding network_file_check
  network-file-accepts short = both-accept (short-enough bytes short) (read-accepted (network-read is-text good))

  -- the check that the reader promises, with room in the answer lists
  pub network-text-accepts : length bytes ≤ max_bytes → (firsts seconds lengths : List ℕ) → edges net ≤ length firsts → edges net ≤ length seconds → edges net ≤ length lengths → network_text_check bytes firsts seconds lengths ≡ accepted
  unfolding network_text_check
  network-text-accepts short firsts seconds lengths one two three =
      both-accept (network-file-accepts short) (rw network-is (rooms-accept (edges net) firsts seconds lengths one two three))
