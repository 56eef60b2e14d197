-- In lists that have room for every text the readers never refuse for want of room: what they answer is the check of the text alone.
use mathlib.Core.List.{List}
use mathlib.Core.Path.{◌≡◌, refl}
use Prim.Native.Nat.{ℕ, ◌≤◌}
use native.Mathlib.Omega.{arith}
use lib.ListN.{length, length-map}
use Rattle.std.specs.Prelude.{Ok, Err}
use Rattle.model.specs.Limits.{max_edges, max_events, max_thresholds}
use Rattle.model.specs.Network.{Network, edges}
use Rattle.model.specs.Refusal.{or_else, Check, accepted}
use Rattle.model.proofs.Laws.CheckParts.{room-accepts}
use Rattle.model.proofs.Laws.Checks as model
use Rattle.text.specs.EventText.{Row}
use Rattle.text.specs.Parallel.{Level}
use Rattle.reading.specs.Answers.{rooms_check}
use Rattle.reading.proofs.Laws.Answers.{rooms-accept}
use Rattle.network_reader.specs.Answers.{text_network, network_file_check, network_text_check}
use Rattle.network_reader.proofs.Laws.{network-passes}
use Rattle.event_reader.specs.Answers.{text_rows, event_file_check, event_text_check}
use Rattle.event_reader.proofs.Laws.{events-pass}
use Rattle.threshold_reader.specs.Answers.{text_thresholds, threshold_file_check, threshold_text_check}
use Rattle.threshold_reader.proofs.Laws.{thresholds_pass}

-- a last check that accepts wherever the one before it does
last-accepts : (a b : Check) → (a ≡ accepted → b ≡ accepted) → or_else a b ≡ a
unfolding or_else
last-accepts (Ok done) b h = h refl
last-accepts (Err r) b h = refl

rooms : (n most : ℕ) (xs ys zs : List ℕ) → n ≤ most → Level most xs ys zs → rooms_check n xs ys zs ≡ accepted
rooms n most xs ys zs h level = rooms-accept n xs ys zs (omega (arith, level.one)) (omega (arith, level.two)) (omega (arith, level.three))

pub thresholds-few : (bytes : List ℕ) → threshold_file_check bytes ≡ accepted → length (text_thresholds bytes) ≤ max_thresholds
thresholds-few bytes e = (model.thresholds-accepted _ (thresholds_pass bytes e)).few

pub rows_few : (net : Network) (bytes : List ℕ) → event_file_check net bytes ≡ accepted → length (text_rows net bytes) ≤ max_events
rows_few net bytes e =
    omega (arith, length-map (text_rows net bytes) (λ (r : Row). r.edge), (model.sets-accepted _ _ _ _ (events-pass net bytes e)).are-events.few)

pub edges_few : (bytes : List ℕ) → network_file_check bytes ≡ accepted → edges (text_network bytes) ≤ max_edges
edges_few bytes e = (model.network-accepted _ (network-passes bytes e)).edges-to

pub thresholds-file : (bytes answers : List ℕ) → length answers ≡ max_thresholds → threshold_text_check bytes answers ≡ threshold_file_check bytes
unfolding threshold_text_check
thresholds-file bytes answers long =
    last-accepts (threshold_file_check bytes) _ (λ e. room-accepts _ answers (omega (arith, long, thresholds-few bytes e)))

pub reports-file : (net : Network) (bytes sets es xs : List ℕ) → Level max_events sets es xs → event_text_check net bytes sets es xs ≡ event_file_check net bytes
unfolding event_text_check
reports-file net bytes sets es xs level =
    last-accepts (event_file_check net bytes) _ (λ e. rooms _ max_events sets es xs (rows_few net bytes e) level)

pub network-file : (bytes firsts seconds lengths : List ℕ) → Level max_edges firsts seconds lengths → network_text_check bytes firsts seconds lengths ≡ network_file_check bytes
unfolding network_text_check
network-file bytes firsts seconds lengths level =
    last-accepts (network_file_check bytes) _ (λ e. rooms _ max_edges firsts seconds lengths (edges_few bytes e) level)
