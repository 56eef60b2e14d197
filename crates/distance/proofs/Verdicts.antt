-- The verdicts on lent lists and answer lists, and what an answer list then holds.
use Rattle.model.specs.declared.refusal.Fault.TheVariants.{ListsDiffer}
use mathlib.Core.List.{List}
use mathlib.Core.Path.{◌≡◌, ◌∙◌, refl, sym, ap}
use Prim.Native.Nat.{ℕ, ◌≤◌, ◌<◌}
use lib.ListN.{length}
use borrow.Author.Tests.{le-leb, lt-leb, leb-true}
use Rattle.model.proofs.Laws.CheckParts.{lists-first}
use Rattle.model.proofs.Laws.Checks.{NodesAccepted, nodes-accepted}
use Rattle.model.proofs.Laws.Refusal.{both-accepted, unless-accepted, or-else-next, or-else-refused, unless-accepts, unless-refuses}
use Rattle.model.specs.Checks.{network_lists, network_values, room_check, lone_node_check, nodes_over_network_check}
use Rattle.model.specs.Network.{Network}
use Rattle.std.specs.Prelude.{Ok, Err}
use Rattle.model.specs.Refusal.{or_else, Check, accepted, refusal}
use Rattle.distance.specs.Answers.{row_check}

-- a check said twice
or-else-same : (a : Check) → or_else a a ≡ a
unfolding or_else
or-else-same (Ok done) = refl
or-else-same (Err x) = refl

module _ (net : Network) (source : ℕ) (answers : List ℕ) where
  -- the answer list is too short
  pub row-short : length answers < net.nodes → refusal ListsDiffer 0 ≡ row_check net source answers
  unfolding row_check room_check
  row-short h = sym (lists-first net (or-else-refused _ (unless-refuses _ ListsDiffer 0 (lt-leb net.nodes (length answers) h))))

  -- the answer list has room: the rest decides
  pub row-roomy : net.nodes ≤ length answers → nodes_over_network_check net source source ≡ row_check net source answers
  unfolding row_check room_check nodes_over_network_check
  row-roomy h =
      ap (λ (lone : Check). or_else (network_lists net) (network_values lone net)) (or-else-same (lone_node_check net source))
      ∙ ap (or_else (network_lists net)) (sym (or-else-next _ (unless-accepts _ ListsDiffer 0 (le-leb net.nodes (length answers) h))))

  -- accepted: there is room, and the source is a node of the network
  pub row-accepted : row_check net source answers ≡ accepted → (net.nodes ≤ length answers) × NodesAccepted net source source
  unfolding row_check room_check
  row-accepted e =
      let room : net.nodes ≤ length answers = leb-true net.nodes (length answers) (unless-accepted _ ListsDiffer 0 (both-accepted _ _ (both-accepted _ _ e).1).0) in
      (room, nodes-accepted net source source (row-roomy room ∙ e))
