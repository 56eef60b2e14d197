-- One more arc of a network text: its checks, and its place behind the others.
use mathlib.Core.Bool.{Bool, true, false, ◌&&◌, ◌||◌}
use mathlib.Core.List.{List, [], ◌∷◌, ◌++◌}
use mathlib.Core.Path.{◌≡◌, refl, sym, ap, ◌∙◌}
use Prim.Native.Nat.{ℕ, suc, ◌*◌, ◌%◌, ◌/◌, ◌≤◌, ◌<◌}
use native.Mathlib.Omega.{arith}
use borrow.Author.Tests.{eq-eqb, ne_eqb, eqb-true}
use lib.Dec.{eqb}
use lib.ListN.{length, take, set, get_or}
use lib.Seq.{length-take-le}
use Rattle.std.specs.Prelude.{Ok, Err}
use Rattle.model.specs.declared.refusal.Fault.TheVariants.{BadLength, BadNode}
use Rattle.model.proofs.Laws.Refusal.{both_true}
use Rattle.model.specs.Limits.{max_edges, max_length}
use Rattle.model.specs.Refusal.{is_between_of}
use Rattle.text.specs.NetworkText.{ArcRead, turns_last, arc, turned, both_ways, arcs_of}
use Rattle.text.specs.Parallel.{beside, Level}
use Rattle.text.proofs.Laws.Parallel.{beside-length, beside_at, beside-set}
use Rattle.reading.proofs.Require.{holds, fails}
use Rattle.network_reader.specs.Steps.{arcs_in, arc_after, ArcChecked}
use Rattle.network_reader.proofs.BothWays.{no-arc, both-length, edge-stored, second-follows, is_turned_of, last_is}

-- The checks 7 and 9.
module _ (nodes : ℕ) (b : ArcRead) where
  pub nodes-refused : (is_between_of 1 nodes b.from && is_between_of 1 nodes b.to) ≡ false → ArcChecked nodes b (Err BadNode)
  unfolding arc_after
  nodes-refused e = record { before = λ on. fails BadNode _ e }

  module _ (n : (is_between_of 1 nodes b.from && is_between_of 1 nodes b.to) ≡ true) where
    pub length-refused : is_between_of 1 max_length b.weight ≡ false → ArcChecked nodes b (Err BadLength)
    unfolding arc_after
    length-refused e = record { before = λ on. holds BadNode n (fails BadLength _ e) }

    pub arc-accepted : is_between_of 1 max_length b.weight ≡ true → ArcChecked nodes b (Ok tt)
    unfolding arc_after
    arc-accepted e = record { before = λ on. holds BadNode n (holds BadLength e refl) }

-- half of a number of arcs
pub half-even : (count : ℕ) → (count % 2 ≡ 1 → ⊥) → count ≡ 2 * (count / 2)
half-even count h = omega arith

pub half-odd : (count : ℕ) → (count % 2 ≡ 0 → ⊥) → count ≡ suc (2 * (count / 2))
half-odd count h = omega arith

-- 10 asks nothing of a first arc
pub first_passes : (count : ℕ) (t : Bool) → count % 2 ≡ 0 → true ≡ (eqb (count % 2) 0 || t)
first_passes count t e = rw (eq-eqb _ _ e)

-- an arc that turns another round is it turned round
turned-is : (a b : ArcRead) → is_turned_of a b ≡ true → turned a ≡ b
unfolding is_turned_of
turned-is a b e =
    let one = both_true _ _ e in
    let two = both_true _ _ one.1 in
    rw (eqb-true a.to b.from two.0, eqb-true a.from b.to one.0, eqb-true a.weight b.weight two.1)

-- Three lists hold the edges.
module _ {firsts seconds lengths : List ℕ} (l : Level max_edges firsts seconds lengths) where
  edges-length : length (beside arc firsts seconds lengths) ≡ max_edges
  edges-length = beside-length arc max_edges firsts seconds lengths l

  -- as many arcs as are counted
  pub arcs-length : (count : ℕ) → count ≤ 2 * max_edges → length (arcs_in count firsts seconds lengths) ≡ count
  unfolding arcs_in arcs_of
  arcs-length count h =
      length-take-le count (both_ways (beside arc firsts seconds lengths))
      (omega (arith, both-length (beside arc firsts seconds lengths), edges-length))

  -- the edge of an odd number of arcs
  edge-is : (k : ℕ) → k < max_edges → get_or (beside arc firsts seconds lengths) k no-arc ≡ arc (get_or firsts k 0) (get_or seconds k 0) (get_or lengths k 0)
  edge-is k h = beside_at arc max_edges firsts seconds lengths no-arc l k h

  -- the last of an odd number of arcs is the edge that was stored last
  last-edge : (k : ℕ) (b : ArcRead) → k < max_edges → turns_last (arcs_in (suc (2 * k)) firsts seconds lengths) b ≡ is_turned_of (arc (get_or firsts k 0) (get_or seconds k 0) (get_or lengths k 0)) b
  unfolding arcs_in arcs_of
  last-edge k b h =
      last_is (beside arc firsts seconds lengths) k b (omega (arith, edges-length)) ∙ ap (λ (a : ArcRead). is_turned_of a b) (edge-is k h)

  -- behind an edge's first arc its second comes
  follows : (k : ℕ) → k < max_edges → arcs_in (suc (suc (2 * k))) firsts seconds lengths ≡ arcs_in (suc (2 * k)) firsts seconds lengths ++ (turned (get_or (beside arc firsts seconds lengths) k no-arc) ∷ [])
  unfolding arcs_in arcs_of
  follows k h = second-follows (beside arc firsts seconds lengths) k (omega (arith, edges-length))

  -- 10 of a second arc
  pub second-turned : (count : ℕ) (b : ArcRead) → (count % 2 ≡ 0 → ⊥) → count ≤ 2 * max_edges → (eqb (count % 2) 0 || turns_last (arcs_in count firsts seconds lengths) b) ≡ is_turned_of (arc (get_or firsts (count / 2) 0) (get_or seconds (count / 2) 0) (get_or lengths (count / 2) 0)) b
  second-turned count b odd h =
      rw (ne_eqb _ _ odd)
      (ap (λ (n : ℕ). turns_last (arcs_in n firsts seconds lengths) b) (half-odd count odd)
      ∙ last-edge (count / 2) b (omega (arith, half-odd count odd)))

  -- a first arc is stored as an edge
  pub first-stored : (count u v w : ℕ) → (count % 2 ≡ 1 → ⊥) → count < 2 * max_edges → arcs_in (suc count) (set firsts (count / 2) u) (set seconds (count / 2) v) (set lengths (count / 2) w) ≡ arcs_in count firsts seconds lengths ++ (arc u v w ∷ [])
  unfolding arcs_in arcs_of
  first-stored count u v w even h =
      rw (beside-set arc firsts seconds lengths (count / 2) u v w)
      (ap (λ (n : ℕ). take (suc n) (both_ways (set (beside arc firsts seconds lengths) (count / 2) (arc u v w)))) (half-even count even)
      ∙ edge-stored (beside arc firsts seconds lengths) (count / 2) (arc u v w) (omega (arith, edges-length, half-even count even))
      ∙ ap (λ (n : ℕ). take n (both_ways (beside arc firsts seconds lengths)) ++ (arc u v w ∷ [])) (sym (half-even count even)))

  -- a second one that turns it round is told by it
  pub second-told : (count : ℕ) (b : ArcRead) → count % 2 ≡ 1 → count < 2 * max_edges → (eqb (count % 2) 0 || turns_last (arcs_in count firsts seconds lengths) b) ≡ true → arcs_in (suc count) firsts seconds lengths ≡ arcs_in count firsts seconds lengths ++ (b ∷ [])
  second-told count b odd h e =
      let k = count / 2 in
      let odd' : count % 2 ≡ 0 → ⊥ = λ z. omega arith in
      let half : count ≡ suc (2 * k) = half-odd count odd' in
      let small : k < max_edges = omega arith in
      let same = turned-is (arc (get_or firsts k 0) (get_or seconds k 0) (get_or lengths k 0)) b (sym (second-turned count b odd' (omega arith)) ∙ e) in
      ap (λ (n : ℕ). arcs_in (suc n) firsts seconds lengths) half
      ∙ follows k small
      ∙ ap (λ (a : ArcRead). arcs_in (suc (2 * k)) firsts seconds lengths ++ (a ∷ [])) (ap turned (edge-is k small) ∙ same)
      ∙ ap (λ (n : ℕ). arcs_in n firsts seconds lengths ++ (b ∷ [])) (sym half)
