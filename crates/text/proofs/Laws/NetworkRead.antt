-- The text of a network within the limits is accepted, and the network is read back from it.
use Rattle.model.specs.Refusal.{accepted}
use Rattle.model.specs.declared.refusal.Fault.TheVariants.{BadLength, BadNode, BadSizes, NotTurned, WrongArcs}
use mathlib.Core.Bool.{true, ◌||◌, or-true}
use mathlib.Core.List.{List, [], ◌∷◌, ◌++◌, map, append-nil}
use mathlib.Core.Path.{◌≡◌, refl, ap, ◌∙◌}
use Prim.Native.Nat.{ℕ, suc, ◌+◌, ◌*◌, ◌%◌, ◌≤◌, ◌<◌}
use native.Mathlib.Omega.{arith}
use borrow.Author.Tests.{eq-eqb, lt-ltb}
use lib.Dec.{eqb}
use lib.ListN.{length, get_or, length-append}
use lib.Seq.{append_snoc}
use Rattle.model.proofs.Laws.Checks.{IsNetwork, network-accepted}
use Rattle.model.proofs.Laws.Refusal.{true-between}
use Rattle.model.specs.Checks.{network_check}
use Rattle.model.specs.Limits.{max_nodes, max_edges, max_length}
use Rattle.model.specs.Network.{Network, network, edges, first, second, size}
use Rattle.text.specs.Fields.{space}
use Rattle.text.specs.Lines.{line_feed, feed_lines}
use Rattle.text.specs.NetworkText.{ArcRead, before_problem, reading, arc, turns_last, take_arc_of, take_problem_of, network_step, network_end, ended, network_lines, every_other, network_of_arcs, both_ways, arcs_of}
use Rattle.text.specs.Parallel.{beside}
use Rattle.text.specs.Reading.{taken, read, read_lines}
use Rattle.text.specs.Texts.{network_arcs, problem_line, arc_line, network_text_lines, IsNetworkText, lacks}
use Rattle.text.proofs.Laws.Lacking.{numbered-lack}
use Rattle.text.proofs.Laws.Remarks.{line_step, remarks-plain, remarks-passed}
use Rattle.text.proofs.Laws.TextFields.{problem-line, arc-line}
use Rattle.text.proofs.Laws.TextLines.{Plain, AllPlain, one_more, map-plain, feed-plain}
use Rattle.text.proofs.Laws.TextRows.{holds, goes_on}

-- a `p` line is read back
problem-plain : (nodes arcs : ℕ) → Plain line_feed (problem_line nodes arcs)
unfolding problem_line lacks
problem-plain nodes arcs = record { free = numbered-lack line_feed (omega arith) space refl (nodes ∷ arcs ∷ []); some = omega arith }

-- and an arc line
arc-plain : (a : ArcRead) → Plain line_feed (arc_line a)
unfolding arc_line lacks
arc-plain a = record { free = numbered-lack line_feed (omega arith) space refl (a.from ∷ a.to ∷ a.weight ∷ []); some = omega arith }

-- what 7 and 9 leave of an edge
record IsEdge (nodes u v w : ℕ) : Type 0 where
  first_from : 1 ≤ u
  first_to : u ≤ nodes
  second_from : 1 ≤ v
  second_to : v ≤ nodes
  length_from : 1 ≤ w
  length_to : w ≤ max_length

-- turned round it is one too
turned-edge : {nodes u v w : ℕ} → IsEdge nodes u v w → IsEdge nodes v u w
turned-edge e = record {
  first_from = e.second_from;
  first_to = e.second_to;
  second_from = e.first_from;
  second_to = e.first_to;
  length_from = e.length_from;
  length_to = e.length_to;
}

-- an arc behind its own edge is that edge turned round
turns-edge : (before : List ArcRead) (u v w : ℕ) → turns_last (before ++ (arc u v w ∷ [])) (arc v u w) ≡ true
unfolding turns_last
turns-edge [] u v w = simp (eq-eqb u u refl, eq-eqb v v refl, eq-eqb w w refl)
turns-edge (a ∷ []) u v w = simp (eq-eqb u u refl, eq-eqb v v refl, eq-eqb w w refl)
turns-edge (a ∷ a' ∷ more) u v w = turns-edge (a' ∷ more) u v w

-- a network's size is taken
problem-taken : (nodes edges : ℕ) → 1 ≤ nodes → nodes ≤ max_nodes → 1 ≤ edges → edges ≤ max_edges → line_step before_problem (problem_line nodes (2 * edges)) ≡ taken (reading nodes (2 * edges) [])
unfolding network_step take_problem_of
problem-taken nodes edges n-from n-to e-from e-to =
    ap (network_step before_problem) (problem-line nodes (2 * edges) (omega arith) (omega arith))
    ∙ holds BadSizes (simp (true-between 1 max_nodes nodes n-from n-to, eq-eqb (2 * edges % 2) 0 (omega arith), true-between 2 (2 * max_edges) (2 * edges) (omega arith) (omega arith))) refl

module _ (nodes arcs : ℕ) (few : nodes ≤ max_nodes) where
  -- an arc is taken behind those before it: 10 asks that a second one turns the first one round
  arc-taken : (before : List ArcRead) (u v w : ℕ) → IsEdge nodes u v w → (eqb (length before % 2) 0 || turns_last before (arc u v w)) ≡ true → length before < arcs → line_step (reading nodes arcs before) (arc_line (arc u v w)) ≡ taken (reading nodes arcs (before ++ (arc u v w ∷ [])))
  unfolding network_step take_arc_of
  arc-taken before u v w e turned room =
      ap (network_step (reading nodes arcs before)) (arc-line (arc u v w) (omega (arith, e.first_to)) (omega (arith, e.second_to)) (omega (arith, e.length_to)))
      ∙ holds BadNode (simp (true-between 1 nodes u e.first_from e.first_to, true-between 1 nodes v e.second_from e.second_to))
      (holds BadLength (true-between 1 max_length w e.length_from e.length_to)
      (holds NotTurned turned
      (holds WrongArcs (lt-ltb (length before) arcs room) refl)))

  -- the two arcs of an edge behind whole edges, then those of the other edges
  arcs-taken : (us vs ws : List ℕ) (before : List ArcRead) (place : ℕ)
      → ((i : ℕ) → i < length ws → IsEdge nodes (get_or us i 0) (get_or vs i 0) (get_or ws i 0))
      → length before % 2 ≡ 0
      → length before + 2 * length ws ≤ arcs
      → read_lines line_step place (reading nodes arcs before) (map arc_line (arcs_of us vs ws)) ≡ read (reading nodes arcs (before ++ arcs_of us vs ws))
  unfolding arcs_of both_ways beside read_lines
  arcs-taken [] vs ws before place good even room = rw append-nil
  arcs-taken (u ∷ us) [] ws before place good even room = rw append-nil
  arcs-taken (u ∷ us) (v ∷ vs) [] before place good even room = rw append-nil
  arcs-taken (u ∷ us) (v ∷ vs) (w ∷ ws) before place good even room =
      let edge : IsEdge nodes u v w = good 0 (omega arith) in
      let there : List ArcRead = before ++ (arc u v w ∷ []) in
      let back : List ArcRead = there ++ (arc v u w ∷ []) in
      let one_more : length there ≡ suc (length before) = rw length-append (omega arith) in
      let two-more : length back ≡ suc (suc (length before)) = rw (length-append, one_more) (omega arith) in
      goes_on line_step place (arc_line (arc u v w)) (arc_line (arc v u w) ∷ map arc_line (arcs_of us vs ws))
      (arc-taken before u v w edge (simp (eq-eqb (length before % 2) 0 even)) (omega arith))
      ∙ goes_on line_step (suc place) (arc_line (arc v u w)) (map arc_line (arcs_of us vs ws))
      (arc-taken there v u w (turned-edge edge) (simp (turns-edge before u v w, or-true)) (omega arith))
      ∙ arcs-taken us vs ws back (suc (suc place)) (λ i h. good (suc i) (omega arith)) (omega arith) (omega arith)
      ∙ ap (λ (l : List ArcRead). read (reading nodes arcs l))
      (append_snoc there (arc v u w) (arcs_of us vs ws) ∙ append_snoc before (arc u v w) (arc v u w ∷ arcs_of us vs ws))

-- two arcs to an edge
arcs-length : (us vs ws : List ℕ) → length us ≡ length ws → length vs ≡ length ws → length (arcs_of us vs ws) ≡ 2 * length ws
unfolding arcs_of both_ways beside
arcs-length [] vs ws same same' = omega arith
arcs-length (u ∷ us) [] ws same same' = omega arith
arcs-length (u ∷ us) (v ∷ vs) [] same same' = omega arith
arcs-length (u ∷ us) (v ∷ vs) (w ∷ ws) same same' = omega (arith, arcs-length us vs ws (omega arith) (omega arith))

-- every other arc is an edge again
edges-back : (nodes : ℕ) (us vs ws : List ℕ) → length us ≡ length ws → length vs ≡ length ws → network_of_arcs nodes (arcs_of us vs ws) ≡ network nodes us vs ws
unfolding network_of_arcs arcs_of both_ways beside every_other
edges-back nodes [] [] [] same same' = refl
edges-back nodes [] [] (w ∷ ws) same same' = absurd (omega arith)
edges-back nodes [] (v ∷ vs) ws same same' = absurd (omega arith)
edges-back nodes (u ∷ us) [] ws same same' = absurd (omega arith)
edges-back nodes (u ∷ us) (v ∷ vs) [] same same' = absurd (omega arith)
edges-back nodes (u ∷ us) (v ∷ vs) (w ∷ ws) same same' =
    ap (λ (net : Network). network nodes (u ∷ net.firsts) (v ∷ net.seconds) (w ∷ net.lengths))
    (edges-back nodes us vs ws (omega arith) (omega arith))

-- the edges of a network within its limits
edge_at : (net : Network) → IsNetwork net → (i : ℕ) → i < edges net → IsEdge net.nodes (first net i) (second net i) (size net i)
edge_at net is i h =
    let u = is.ends.first_is i h in
    let v = is.ends.second_is i h in
    record {
      first_from = u.from_one;
      first_to = u.to_nodes;
      second_from = v.from_one;
      second_to = v.to_nodes;
      length_from = is.length_from i h;
      length_to = is.length_to i h;
    }

-- The lines of a network within its limits.
module _ (net : Network) (is : IsNetwork net) where
  -- each is read back
  lines-plain : AllPlain line_feed (network_text_lines net)
  unfolding network_text_lines
  lines-plain = one_more (problem-plain net.nodes (2 * edges net)) (map-plain line_feed arc_line arc-plain (network_arcs net))

  -- each is taken
  all-taken : read_lines line_step 1 before_problem (network_text_lines net) ≡ read (reading net.nodes (2 * edges net) (network_arcs net))
  unfolding network_text_lines network_arcs
  all-taken =
      goes_on line_step 1 (problem_line net.nodes (2 * edges net)) (map arc_line (network_arcs net))
      (problem-taken net.nodes (edges net) is.nodes-from is.nodes_to is.edges-from is.edges-to)
      ∙ arcs-taken net.nodes (2 * edges net) is.nodes_to net.firsts net.seconds net.lengths [] 2 (edge_at net is) refl (omega arith)

  -- and no arc is missing
  all_there : length (network_arcs net) ≡ 2 * edges net
  unfolding network_arcs
  all_there = arcs-length net.firsts net.seconds net.lengths is.firsts_length is.seconds_length

-- A network that passes its check, in any text of it: the text's lines are accepted, and the network's arcs are read.
pub network-read : {net : Network} {bytes : List ℕ} → IsNetworkText net bytes → network_check net ≡ accepted → network_lines (feed_lines bytes) ≡ read (reading net.nodes (2 * edges net) (network_arcs net))
unfolding network_lines ended network_end
network-read {net} is-text accepted =
    let is = network-accepted net accepted in
    rw (is-text.is, feed-plain is-text.closed (remarks-plain is-text.among (lines-plain net is)), remarks-passed is-text.among 1 1 before_problem (all-taken net is))
    (rw (eq-eqb (length (network_arcs net)) (2 * edges net) (all_there net is)))

-- The network of those arcs is the one that the text is-text.
pub network-back : (net : Network) → network_check net ≡ accepted → network_of_arcs net.nodes (network_arcs net) ≡ net
unfolding network_arcs
network-back net accepted =
    let is = network-accepted net accepted in
    edges-back net.nodes net.firsts net.seconds net.lengths is.firsts_length is.seconds_length
