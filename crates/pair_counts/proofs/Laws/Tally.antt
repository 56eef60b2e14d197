-- The events of a set on an edge, counted from the front.
use mathlib.Core.Bool.{Bool, true, false, cond, ◌&&◌}
use mathlib.Core.List.{List, [], ◌∷◌}
use mathlib.Core.Path.{◌≡◌, refl, ap₂, ◌∙◌}
use Prim.Native.Nat.{ℕ, suc, ◌+◌, ◌≤◌, ◌<◌}
use native.Mathlib.Numerals.{add-one}
use native.Mathlib.Omega.{arith}
use lib.Dec.{eqb}
use lib.ListN.{length, get_or, drop, drop_of_length-le}
use lib.Seq.{drop-cons}
use Rattle.model.proofs.Laws.Counting.{one-if-one}
use Rattle.model.specs.Counting.{count_if, one_if}
use Rattle.model.specs.Events.{having}
use Rattle.pair_counts.specs.Claim.{on_edge_of}

module _ (sets es : List ℕ) (s e : ℕ) where
  pub record OnEdgeTo (count k : ℕ) : Type 0 where
    pub inside : k ≤ length es
    pub small : count ≤ k
    pub whole : count + on_edge_of (drop k sets) (drop k es) s e ≡ on_edge_of sets es s e

  pub on-edge-none : OnEdgeTo 0 0
  on-edge-none = record { inside = omega arith; small = omega arith; whole = omega arith }

  -- the event at a place counts, or not
  one_more : (t f : ℕ) (ts fs : List ℕ) → on_edge_of (t ∷ ts) (f ∷ fs) s e ≡ one_if (eqb t s && eqb f e) + on_edge_of ts fs s e
  unfolding on_edge_of having count_if one_if
  one_more t f ts fs = go (eqb t s)
    where
      go : (b : Bool) → count_if (λ g. eqb g e) (cond b (f ∷ having s ts fs) (having s ts fs)) ≡ one_if (b && eqb f e) + count_if (λ g. eqb g e) (having s ts fs)
      go true = unfold count_if in refl
      go false = unfold one_if in omega arith

  pub on-edge-more : (count k one : ℕ) → length sets ≡ length es → OnEdgeTo count k → k < length es → one ≡ one_if (eqb (get_or sets k 0) s && eqb (get_or es k 0) e) → OnEdgeTo (count + one) (k + 1)
  on-edge-more count k one long t h is =
      let split : on_edge_of (drop k sets) (drop k es) s e ≡ one_if (eqb (get_or sets k 0) s && eqb (get_or es k 0) e) + on_edge_of (drop (suc k) sets) (drop (suc k) es) s e =
      ap₂ (λ (a b : List ℕ). on_edge_of a b s e) (drop-cons sets k 0 (rw long h)) (drop-cons es k 0 h) ∙ one_more (get_or sets k 0) (get_or es k 0) (drop (suc k) sets) (drop (suc k) es)
      in
      record {
        inside = omega arith;
        small = omega (arith, t.small, one-if-one (eqb (get_or sets k 0) s && eqb (get_or es k 0) e));
        whole = rw (add-one k) (omega (arith, t.whole));
      }

  nothing_left : (a b : List ℕ) → a ≡ [] → on_edge_of a b s e ≡ 0
  unfolding on_edge_of having count_if
  nothing_left a b h = rw h

  pub on-edge-all : (count k : ℕ) → length sets ≡ length es → OnEdgeTo count k → length es ≤ k → count ≡ on_edge_of sets es s e
  on-edge-all count k long t h = omega (arith, t.whole, nothing_left (drop k sets) (drop k es) (drop_of_length-le sets {i = k} (rw long h)))
