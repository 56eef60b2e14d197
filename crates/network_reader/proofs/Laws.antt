-- The network of an accepted text passes the check that later functions make; an answer tells what was accepted.
use mathlib.Core.Bool.{Bool, true, false, cond, ◌&&◌}
use mathlib.Core.List.{List, [], ◌∷◌, ◌++◌, map}
use mathlib.Core.Path.{◌≡◌, ap, refl, sym, ◌∙◌}
use Prim.Native.Nat.{ℕ, zero, suc, ◌+◌, ◌*◌, ◌%◌, ◌<◌}
use native.Mathlib.Omega.{arith}
use borrow.Author.Tests.{eqb-true}
use lib.Dec.{eqb}
use lib.ListN.{length, get_or, length-map}
use Rattle.std.specs.Prelude.{Result, Ok, Err}
use Rattle.model.specs.declared.network.NetworkSize.{NetworkSize}
use Rattle.model.specs.declared.refusal.Refusal.{Refusal}
use Rattle.model.specs.declared.refusal.Fault.TheVariants.{BadLength, BadNode, BadSizes, NotTurned, WrongArcs}
use Rattle.model.proofs.Laws.Answer.{answered, refusal-answered}
use Rattle.model.proofs.Laws.CheckParts.{lists-accept, sizes-accept}
use Rattle.model.proofs.Laws.Refusal.{not-accepted, Between, both-accepted, both-accept, both_true, between-true, below-good}
use Rattle.model.specs.Checks.{network_check, network_values, nodes_check, lengths_check}
use Rattle.model.specs.Limits.{max_nodes, max_edges, max_length}
use Rattle.model.specs.Network.{Network, edges}
use Rattle.model.specs.Refusal.{is_between_of, Check, accepted}
use Rattle.text.specs.Lines.{feed_lines}
use Rattle.text.specs.NetworkText.{ArcRead, NetworkState, before_problem, reading, network_line_text, take_arc_of, take_problem_of, network_step, network_end, ended, network_lines, every_other, network_of_arcs, arc}
use Rattle.text.specs.Reading.{taken, Outcome, read, refused_at, read_lines, length_check}
use Rattle.text.specs.declared.network_line.NetworkLine.{NetworkLine}
use Rattle.text.specs.declared.network_line.NetworkLine.TheVariants.{Remark, Problem, Arc, Other}
use Rattle.reading.specs.Answers.{check_of}
use Rattle.reading.proofs.Laws.Kept.{all-kept, each_snoc, at-index}
use Rattle.reading.proofs.Require.{passed}
use Rattle.network_reader.specs.Answers.{network_in, text_network, network_file_check, network_answer}
use Rattle.network_reader.proofs.BothWays.{no-arc, two-more}

-- an arc's own tests: 7 and 9
pub record ArcGood (nodes : ℕ) (b : ArcRead) : Type 0 where
  pub nodes-good : (is_between_of 1 nodes b.from && is_between_of 1 nodes b.to) ≡ true
  pub length-good : is_between_of 1 max_length b.weight ≡ true

-- the sizes of a `p` line: 6
pub record SizesGood (nodes arcs : ℕ) : Type 0 where
  pub nodes-in : Between 1 max_nodes nodes
  pub even : arcs % 2 ≡ 0
  pub arcs-in : Between 2 (2 * max_edges) arcs

-- what was read so far
pub record ArcsGood (nodes arcs : ℕ) (all : List ArcRead) : Type 0 where
  pub sizes : SizesGood nodes arcs
  pub each : (k : ℕ) → k < length all → ArcGood nodes (get_or all k no-arc)

data StateGood : NetworkState → Type 0 where
  none_yet : StateGood before_problem
  some : {nodes arcs : ℕ} {all : List ArcRead} → ArcsGood nodes arcs all → StateGood (reading nodes arcs all)

good_of : {nodes arcs : ℕ} {all : List ArcRead} → StateGood (reading nodes arcs all) → ArcsGood nodes arcs all
good_of (some g) = g

-- a `p` line that is taken
problem-keeps : (n m : ℕ) (s' : NetworkState) → take_problem_of n m ≡ taken s' → StateGood s'
unfolding take_problem_of
problem-keeps n m s' e =
    let t = passed BadSizes (is_between_of 1 max_nodes n && (eqb (m % 2) 0 && is_between_of 2 (2 * max_edges) m)) e in
    let one = both_true (is_between_of 1 max_nodes n) _ t.0 in
    let two = both_true (eqb (m % 2) 0) _ one.1 in
    let is : reading n m [] ≡ s' = cc t.1 in
    rw (← is)
    (some (nothing_read n m (record { nodes-in = between-true 1 max_nodes n one.0; even = eqb-true _ _ two.0; arcs-in = between-true 2 (2 * max_edges) m two.1 })))
  where
    nothing_read : (n m : ℕ) → SizesGood n m → ArcsGood n m []
    nothing_read n m z = record { sizes = z; each = λ k h. absurd (omega arith) }

-- an arc that is taken
arc-keeps : (n m : ℕ) (all : List ArcRead) (b : ArcRead) (s' : NetworkState) → ArcsGood n m all → take_arc_of n m all b ≡ taken s' → StateGood s'
unfolding take_arc_of
arc-keeps n m all b s' g e =
    let one = passed BadNode _ e in
    let two = passed BadLength _ one.1 in
    let three = passed NotTurned _ two.1 in
    let four = passed WrongArcs _ three.1 in
    let is : reading n m (all ++ (b ∷ [])) ≡ s' = cc four.1 in
    let good : ArcGood n b = record { nodes-good = one.0; length-good = two.0 } in
    rw (← is) (some (record { sizes = g.sizes; each = each_snoc (ArcGood n) no-arc all b g.each good }))

-- one more line keeps it
form-keeps : (s : NetworkState) (line : NetworkLine) (s' : NetworkState) → StateGood s → network_step s line ≡ taken s' → StateGood s'
unfolding network_step
form-keeps s Other s' g e = absurd (let z : ◌≡◌ {A = ℕ} 0 1 = cc in omega arith)
form-keeps s Remark s' g e = let is : s ≡ s' = cc in rw (← is) g
form-keeps before_problem (Problem n m) s' g e = problem-keeps n m s' e
form-keeps before_problem (Arc u v w) s' g e = absurd (let z : ◌≡◌ {A = ℕ} 0 1 = cc in omega arith)
form-keeps (reading nodes arcs all) (Problem n m) s' g e = absurd (let z : ◌≡◌ {A = ℕ} 0 1 = cc in omega arith)
form-keeps (reading nodes arcs all) (Arc u v w) s' g e = arc-keeps nodes arcs all (arc u v w) s' (good_of g) e

-- every other arc: half as many, the k-th at twice k
every-length : (xs : List ArcRead) → 2 * length (every_other xs) ≡ length xs + length xs % 2
unfolding every_other
every-length [] = refl
every-length (a ∷ []) = refl
every-length (a ∷ b ∷ xs) = omega (arith, every-length xs)

every-at : (xs : List ArcRead) (k : ℕ) (d : ArcRead) → get_or (every_other xs) k d ≡ get_or xs (2 * k) d
unfolding every_other
every-at [] k d = refl
every-at (a ∷ []) zero d = refl
every-at (a ∷ []) (suc k) d = rw (two-more k)
every-at (a ∷ b ∷ xs) zero d = refl
every-at (a ∷ b ∷ xs) (suc k) d = rw (two-more k) (every-at xs k d)

-- The edges of good arcs, as many as were announced.
module _ {nodes arcs : ℕ} {all : List ArcRead} (g : ArcsGood nodes arcs all) (came : length all ≡ arcs) where
  edge-good : (k : ℕ) → k < length (every_other all) → ArcGood nodes (get_or (every_other all) k no-arc)
  edge-good k h = rw (every-at all k no-arc) (g.each (2 * k) (omega (arith, every-length all, g.sizes.even)))

  -- 2
  lists-long : (f : ArcRead → ℕ) → length (map f (every_other all)) ≡ length (every_other all)
  lists-long f = length-map (every_other all) f

  -- 7
  nodes-pass : nodes_check (network_of_arcs nodes all) ≡ accepted
  unfolding nodes_check network_of_arcs
  nodes-pass =
      below-good BadNode _ _
      (λ k h. rw (at-index (λ a. a.from) no-arc (every_other all) refl k, at-index (λ a. a.to) no-arc (every_other all) refl k) (edge-good k (omega (arith, lists-long (λ a. a.weight)))).nodes-good)

  -- 9
  lengths-pass : lengths_check (network_of_arcs nodes all) ≡ accepted
  unfolding lengths_check network_of_arcs
  lengths-pass =
      below-good BadLength _ _
      (λ k h. rw (at-index (λ a. a.weight) no-arc (every_other all) refl k) (edge-good k (omega (arith, lists-long (λ a. a.weight)))).length-good)

  -- 6
  few_edges : Between 1 max_edges (length (map (λ (a : ArcRead). a.weight) (every_other all)))
  few_edges =
      record {
        from = omega (arith, lists-long (λ a. a.weight), every-length all, g.sizes.arcs-in.from, g.sizes.even);
        to = omega (arith, lists-long (λ a. a.weight), every-length all, g.sizes.arcs-in.to, g.sizes.even);
      }

  pub arcs-pass : network_check (network_of_arcs nodes all) ≡ accepted
  unfolding network_check network_values network_of_arcs
  arcs-pass =
      both-accept (lists-accept (network_of_arcs nodes all) (lists-long (λ a. a.from) ∙ sym (lists-long (λ a. a.weight))) (lists-long (λ a. a.to) ∙ sym (lists-long (λ a. a.weight))))
      (both-accept (sizes-accept nodes _ g.sizes.nodes-in few_edges) (both-accept refl (both-accept nodes-pass lengths-pass)))

-- so the network of a text that is read passes
pub lines-pass : (lines : List (List ℕ)) → check_of (network_lines lines) ≡ accepted → network_check (network_in (network_lines lines)) ≡ accepted
unfolding network_lines ended network_end check_of network_in
lines-pass lines =
    by (read_lines (λ s line. network_step s (network_line_text line)) 1 before_problem lines)
    (λ s is. all-kept (λ s line. network_step s (network_line_text line)) StateGood (λ s line s' g e. form-keeps s (network_line_text line) s' g e) 1 before_problem lines none_yet is)
  where
    whole : (nodes arcs : ℕ) (all : List ArcRead) (b : Bool) → eqb (length all) arcs ≡ b → ArcsGood nodes arcs all → check_of (cond b (read (reading nodes arcs all)) (refused_at WrongArcs (suc (length lines)))) ≡ accepted → network_check (network_in (cond b (read (reading nodes arcs all)) (refused_at WrongArcs (suc (length lines))))) ≡ accepted
    whole nodes arcs all true e g f = arcs-pass g (eqb-true _ _ e)
    whole nodes arcs all false e g f = not-accepted f

    by : (o : Outcome NetworkState) → ((s : NetworkState) → o ≡ read s → StateGood s) → check_of (ended o (suc (length lines))) ≡ accepted → network_check (network_in (ended o (suc (length lines)))) ≡ accepted
    by (read before_problem) good f = not-accepted f
    by (read (reading nodes arcs all)) good f = whole nodes arcs all (eqb (length all) arcs) refl (good_of (good (reading nodes arcs all) refl)) f
    by (refused_at fault place) good f = not-accepted f

-- The network of a text that is accepted passes the check of a network.
pub network-passes : (bytes : List ℕ) → network_file_check bytes ≡ accepted → network_check (text_network bytes) ≡ accepted
unfolding network_file_check text_network
network-passes bytes e = lines-pass (feed_lines bytes) (both-accepted (length_check bytes) _ e).1

-- a network that was read was accepted, and the answer is its sizes
pub network-accepted : (check : Check) (net : Network) {size : NetworkSize} → ◌≡◌ {A = Result NetworkSize Refusal} (Ok size) (network_answer check net) → (check ≡ accepted) × (size.nodes ≡ net.nodes) × (size.edges ≡ edges net)
unfolding network_answer
network-accepted check net e =
    let a = answered check _ e in
    (a.0, ap (λ (s : NetworkSize). s.nodes) a.1, ap (λ (s : NetworkSize). s.edges) a.1)

-- and one that was not read was refused
pub network-refused : (check : Check) (net : Network) {x : Refusal} → ◌≡◌ {A = Result NetworkSize Refusal} (Err x) (network_answer check net) → check ≡ Err x
unfolding network_answer
network-refused check net e = refusal-answered check _ e
