-- What the sweep is told of two edges, and what it leaves: the positions and moves that the definitions say.
use Rattle.model.specs.Refusal.{Check, accepted}
use Rattle.model.specs.declared.refusal.Refusal.{Refusal}
use Rattle.std.specs.Prelude.{Err}
use mathlib.Core.List.{List}
use mathlib.Core.Path.{◌≡◌, ◌∙◌, sym, ap}
use Prim.Native.Nat.{ℕ, pred, ◌≤◌}
use native.Mathlib.Decide.{ℕ_discrete}
use native.Mathlib.Omega.{arith}
use borrow.Author.Tests.{eq-eqb, ne_eqb}
use lib.Dec.{eqb}
use Rattle.layout.specs.Stretch.{StretchAnswered, stretch_of}
use Rattle.model.proofs.Laws.Checks.{LaidOutAccepted, laid-out-accepted, network-accepts}
use Rattle.model.proofs.Laws.Codes.{decode-code}
use Rattle.model.specs.Answer.{written}
use Rattle.model.specs.Checks.{laid_out_check}
use Rattle.model.specs.Distance.{decode}
use Rattle.model.specs.Events.{having}
use Rattle.model.specs.Location.{Side, at_first, at_second, end_node}
use Rattle.model.specs.Network.{Network}
use Rattle.model.specs.NodeDistance.{bounded_distance}
use Rattle.sweep.proofs.Laws.AnsweringCheck.{CursorsAccepted}
use Rattle.sweep.proofs.Laws.OnEdges.{laid-on-edge}
use Rattle.sweep.specs.Answers.{cursors_check, cursor_positions, cursor_moves, route_positions, route_moves, CursorsAnswered}
use Rattle.sweep.specs.Asked.{TwoEdges, EdgesFound, CursorsWritten}
use Rattle.edge_pair.specs.Edges.{distance_between}
use Rattle.sweep.specs.Six.{route_marks, route_sum, window_marks, window_sum, six_marks, six_sums, EdgesSweepable, EdgesSwept}
use Rattle.edge_pair.specs.declared.edges.EdgePair.{EdgePair}

-- indices are the same where the numbers are
same_number : (e f : ℕ) → 1 ≤ e → 1 ≤ f → eqb (pred e) (pred f) ≡ eqb e f
same_number e f h k = go (ℕ_discrete e f)
  where
    go : Dec (e ≡ f) → eqb (pred e) (pred f) ≡ eqb e f
    go (yes q) = eq-eqb (pred e) (pred f) (ap pred q) ∙ sym (eq-eqb e f q)
    go (no q) = ne_eqb (pred e) (pred f) (λ p. q (omega arith)) ∙ sym (ne_eqb e f q)

-- the events on an edge, handed back as a part of the list
pub part-is : {net : Network} {es xs r : List ℕ} {e number place : ℕ} → laid_out_check net es xs e ≡ accepted → StretchAnswered net es xs e r number place → r ≡ having e es xs
unfolding stretch_of
part-is h a = rw h at a.stretch_is

-- what is asked has been accepted
module _ {net : Network} {es xs : List ℕ} {e f : ℕ} {ps ms : List ℕ} (ok : CursorsAccepted net es xs e f ps ms) where
  first_is : LaidOutAccepted net es xs e
  first_is = laid-out-accepted net es xs e ok.first_laid

  second_is : LaidOutAccepted net es xs f
  second_is = laid-out-accepted net es xs f ok.second_laid

  pub two_edges : TwoEdges net e f
  two_edges =
      record {
        accepted = network-accepts net first_is.is-network;
        first_from = first_is.is_edge.from;
        first_to = first_is.is_edge.to;
        second_from = second_is.is_edge.from;
        second_to = second_is.is_edge.to;
      }

  module _ {bound : ℕ} {w : EdgePair} (found : EdgesFound net bound (pred e) (pred f) w) where
    pub sweepable : {xs₁ xs₂ : List ℕ} → xs₁ ≡ having e es xs → xs₂ ≡ having f es xs → EdgesSweepable w xs₁ xs₂ ps ms
    sweepable p q =
        rw (p, q)
        (record {
          first_laid = rw found.length1_is (laid-on-edge net es xs e e first_is);
          second_laid = rw found.length2_is (laid-on-edge net es xs f f second_is);
          room = ok.room;
          sums_room = ok.sums_room;
        })

    between_is : (s s' : Side) → distance_between w s s' ≡ bounded_distance net bound (end_node net (pred e) s) (end_node net (pred f) s')
    unfolding distance_between
    between_is s s' = ap decode (found.codes_are s s') ∙ decode-code _

    same_is : w.same ≡ eqb e f
    same_is = found.same_is ∙ same_number e f first_is.is_edge.from second_is.is_edge.from

    marks-are : (t : ℕ) → six_marks t w.length1 w.length2 (distance_between w) w.same (having e es xs) (having f es xs) ≡ cursor_positions net es xs e f t bound
    unfolding six_marks route_marks window_marks cursor_positions route_positions
    marks-are t = simp (found.length1_is, found.length2_is, same_is, between_is at_first at_first, between_is at_first at_second, between_is at_second at_first, between_is at_second at_second)

    sums-are : (t : ℕ) → six_sums t w.length1 w.length2 (distance_between w) w.same (having e es xs) (having f es xs) ≡ cursor_moves net es xs e f t bound
    unfolding six_sums route_sum window_sum cursor_moves route_moves route_positions
    sums-are t = simp (found.length1_is, found.length2_is, same_is, between_is at_first at_first, between_is at_first at_second, between_is at_second at_first, between_is at_second at_second)

    pub all-written : {t : ℕ} {xs₁ xs₂ ps' ms' : List ℕ} → xs₁ ≡ having e es xs → xs₂ ≡ having f es xs → EdgesSwept t w xs₁ xs₂ ps ms ps' ms' → CursorsWritten net es xs e f t bound ps ms ps' ms'
    all-written {t} p q swept =
        record {
          positions_are = swept.positions_are ∙ rw (p, q) (ap (λ (l : List ℕ). written accepted l ps) (marks-are t));
          moves_are = swept.moves_are ∙ rw (p, q) (ap (λ (l : List ℕ). written accepted l ms) (sums-are t));
        }

-- the two ways to answer
module _ {net : Network} {es xs : List ℕ} {e f : ℕ} {ps ms : List ℕ} {r : Check} (told : r ≡ cursors_check net es xs e f ps ms) (t bound : ℕ) where
  pub refused : {x : Refusal} → r ≡ Err x → CursorsAnswered net es xs e f t bound ps ms r ps ms
  unfolding written
  refused p =
      let no = sym told ∙ p in
      record { verdict = told; positions_after = rw no; moves_after = rw no }

  pub answered : {ps' ms' : List ℕ} → r ≡ accepted → CursorsWritten net es xs e f t bound ps ms ps' ms' → CursorsAnswered net es xs e f t bound ps ms r ps' ms'
  answered p done =
      let yes = sym told ∙ p in
      record { verdict = told; positions_after = rw yes done.positions_are; moves_after = rw yes done.moves_are }
