-- The chains of arcs while they are made, one arc at a time.
use mathlib.Core.List.{List}
use mathlib.Core.Logic.{◌≢◌}
use mathlib.Core.Path.{◌≡◌, ◌∙◌, refl, sym}
use Prim.Native.Nat.{ℕ, ◌+◌, ◌≤◌, ◌<◌}
use native.Mathlib.Numerals.{add-one}
use native.Mathlib.Omega.{arith}
use borrow.Author.Count.{below_more}
use borrow.Author.Tests.{eq-eqb, ne_eqb}
use lib.ListN.{length, get_or, set, length-set}
use lib.Seq.{get_or-set_same, get_or-set_other}
use Rattle.distance.specs.Arcs.{tail, last_arc, Linked}
use Rattle.distance.proofs.Lists.{after-set}

module _ (firsts seconds : List ℕ) where
  last-same : (a : ℕ) → last_arc firsts seconds (tail firsts seconds a) (a + 1) ≡ a + 1
  unfolding last_arc
  last-same a = rw (add-one a, eq-eqb (tail firsts seconds a) (tail firsts seconds a) refl)

  last-other : (v a : ℕ) → v ≢ tail firsts seconds a → last_arc firsts seconds v (a + 1) ≡ last_arc firsts seconds v a
  unfolding last_arc
  last-other v a other = rw (add-one a, ne_eqb (tail firsts seconds a) v (λ e. other (sym e)))

  -- no arcs yet
  pub link-none : (last next : List ℕ) (nodes : ℕ) → nodes < length last → ((k : ℕ) → get_or last k 0 ≡ 0) → Linked firsts seconds last next nodes 0
  unfolding last_arc
  link-none last next nodes room clear = record { last_length = room; next_length = omega arith; last_is = λ v h. clear v; next_is = λ a h. omega arith }

  -- one arc more, as the loop's two stores leave the lists
  pub link-more : (last next : List ℕ) (nodes a : ℕ) → Linked firsts seconds last next nodes a → a < length next → tail firsts seconds a ≤ nodes → Linked firsts seconds (set last (tail firsts seconds a) (a + 1)) (set next a (get_or last (tail firsts seconds a) 0)) nodes (a + 1)
  link-more last next nodes a l room small =
      record {
        last_length = rw length-set l.last_length;
        next_length = rw length-set (omega arith);
        last_is = λ v h. after-set (λ (v x : ℕ). x ≡ last_arc firsts seconds v (a + 1)) last (tail firsts seconds a) (a + 1) v (omega (arith, l.last_length)) (sym (last-same a)) (λ other. l.last_is v h ∙ sym (last-other v a other));
        next_is = below_more (λ b. get_or (set next a (get_or last (tail firsts seconds a) 0)) b 0 ≡ last_arc firsts seconds (tail firsts seconds b) b) a
            (λ b h. get_or-set_other next a b (get_or last (tail firsts seconds a) 0) 0 (omega arith) ∙ l.next_is b h)
            (get_or-set_same next a (get_or last (tail firsts seconds a) 0) 0 room ∙ l.last_is (tail firsts seconds a) small);
      }
