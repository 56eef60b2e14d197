-- Where the events on an edge begin and end in a laid-out list, from two counts.
use mathlib.Core.Bool.{Bool, true, false, cond}
use mathlib.Core.List.{List, []}
use mathlib.Core.Path.{◌≡◌, ◌∙◌, refl, sym, ap, ap₂}
use Prim.Native.Nat.{ℕ, suc, ◌+◌, ◌≤◌}
use native.Mathlib.Numerals.{add-one}
use native.Mathlib.Omega.{arith}
use borrow.Author.Tests.{le-leb, ltb-true}
use lib.Dec.{ltb, leb, leb-suc-suc}
use lib.ListN.{length}
use Rattle.std.proofs.lemmas.List.Recursion.{is_count_by}
use Rattle.std.specs.List.{count_by}
use Rattle.model.proofs.Laws.Checks.{laid-out-accepted}
use Rattle.model.proofs.Laws.Counting.{count-cong, count-mono, count-at-most}
use Rattle.model.proofs.Laws.Pieces.{part}
use Rattle.model.proofs.Laws.Stretch.{through-edge, having-part, laid-out-rise}
use Rattle.model.specs.Checks.{laid_out_check}
use Rattle.model.specs.Counting.{count_if, one_if}
use Rattle.model.specs.Events.{having}
use Rattle.model.specs.Network.{Network}
use Rattle.model.specs.Refusal.{fault_number, number_of, place_of, accepted}
use Rattle.model.specs.declared.refusal.Refusal.{Refusal}
use Rattle.std.specs.Prelude.{Err}
use Rattle.layout.specs.Stretch.{StretchAnswered, stretch_of}

-- the count of the definitions is the library's
one-more-if : (b : Bool) (n : ℕ) → one_if b + n ≡ cond b (1 + n) n
unfolding one_if
one-more-if true n = omega arith
one-more-if false n = omega arith

counted : (test : ℕ → Bool) (xs : List ℕ) → count_if test xs ≡ count_by test xs
unfolding count_if
counted test = is_count_by (count_if test) test refl (λ x xs. one-more-if (test x) (count_if test xs))

-- below one more than the edge is up to the edge
next_edge : (e : ℕ) (es : List ℕ) → count_if (λ t. ltb t (e + 1)) es ≡ through-edge e es
next_edge e es = count-cong (λ t. ltb t (e + 1)) (λ t. leb t e) es (λ t. ap (leb (suc t)) (add-one e) ∙ leb-suc-suc t e)

-- what two counts tell of a list accepted as laid out
pub record OnEdge (es xs : List ℕ) (e from to : ℕ) : Type 0 where
  pub in_order : from ≤ to
  pub inside : to ≤ length xs
  pub stretch : part from to xs ≡ having e es xs

pub on_edge : (net : Network) (es xs : List ℕ) (e from to : ℕ) → laid_out_check net es xs e ≡ accepted → from ≡ count_by (λ t. ltb t e) es → to ≡ count_by (λ t. ltb t (e + 1)) es → OnEdge es xs e from to
on_edge net es xs e from to h p q =
    let same = (laid-out-accepted net es xs e h).are-events.same_length in
    let from_is : from ≡ count_if (λ t. ltb t e) es = p ∙ sym (counted _ es) in
    let to_is : to ≡ through-edge e es = q ∙ sym (counted _ es) ∙ next_edge e es in
    record {
      in_order = omega (arith, from_is, to_is, count-mono (λ t. ltb t e) (λ t. leb t e) es (λ t l. le-leb t e (omega (arith, ltb-true t e l))));
      inside = omega (arith, to_is, count-at-most (λ t. leb t e) es);
      stretch = ap₂ (λ (a b : ℕ). part a b xs) from_is to_is ∙ sym (having-part e es xs same (laid-out-rise net es xs e h));
    }

-- the two ways to answer
pub stretch-refused : (net : Network) (es xs : List ℕ) (e : ℕ) (x : Refusal) → laid_out_check net es xs e ≡ Err x → StretchAnswered net es xs e [] (fault_number x.fault) x.place
unfolding stretch_of number_of place_of
stretch-refused net es xs e x h = record { stretch_is = rw h; number_is = rw h; place_is = rw h }

pub stretch-accepted : (net : Network) (es xs r : List ℕ) (e : ℕ) → laid_out_check net es xs e ≡ accepted → r ≡ having e es xs → StretchAnswered net es xs e r 0 0
unfolding stretch_of number_of place_of
stretch-accepted net es xs r e h is = record { stretch_is = rw h is; number_is = rw h; place_is = rw h }
