-- Equal entries in a row: where they end, and what is summed over them.
use mathlib.Core.Bool.{Bool, cond}
use mathlib.Core.List.{List}
use mathlib.Core.Path.{◌≡◌, refl, ap, ◌∙◌, subst}
use Prim.Native.Nat.{ℕ, zero, suc, ◌+◌, ◌-◌, ◌*◌, ◌≤◌, ◌<◌}
use native.Mathlib.Decide.{ℕ_discrete}
use native.Mathlib.Omega.{arith}
use borrow.Author.Tests.{eq-eqb, ne_eqb}
use lib.ListN.{length, drop, get_or, drop_of_length-le}
use lib.Seq.{drop-cons}
use Rattle.model.specs.Counting.{sum_below, equals_in_front, equals_end_of}

-- the entries from one place up to before another are equal, and the next one is another
pub record Equals (ns : List ℕ) (from to : ℕ) : Type 0 where
  pub further : from < to
  pub within : to ≤ length ns
  pub same : (k : ℕ) → from ≤ k → k < to → get_or ns k 0 ≡ get_or ns from 0
  pub ends : to < length ns → get_or ns to 0 ≡ get_or ns from 0 → ⊥

module _ (ns : List ℕ) (n : ℕ) where
  -- an entry that is equal, one that is not, and none
  pub equal_next : (k : ℕ) → k < length ns → get_or ns k 0 ≡ n → equals_in_front n (drop k ns) ≡ equals_in_front n (drop (k + 1) ns) + 1
  unfolding equals_in_front
  equal_next k h e =
      ap (equals_in_front n) (drop-cons ns k 0 h)
      ∙ ap (λ (b : Bool). cond b (suc (equals_in_front n (drop (suc k) ns))) 0) (eq-eqb (get_or ns k 0) n e)
      ∙ ap (λ (l : ℕ). suc (equals_in_front n (drop l ns))) {x = suc k} {y = k + 1} (omega arith)
      ∙ omega arith

  pub other-next : (k : ℕ) → k < length ns → (get_or ns k 0 ≡ n → ⊥) → equals_in_front n (drop k ns) ≡ 0
  unfolding equals_in_front
  other-next k h e =
      ap (equals_in_front n) (drop-cons ns k 0 h)
      ∙ ap (λ (b : Bool). cond b (suc (equals_in_front n (drop (suc k) ns))) 0) (ne_eqb (get_or ns k 0) n e)

  pub none-next : (k : ℕ) → length ns ≤ k → equals_in_front n (drop k ns) ≡ 0
  unfolding equals_in_front
  none-next k h = ap (equals_in_front n) (drop_of_length-le ns h)

  -- where they end, so many entries being left
  record Ending (k to : ℕ) : Type 0 where
    within : to ≤ length ns
    same : (j : ℕ) → k ≤ j → j < to → get_or ns j 0 ≡ n
    ends : to < length ns → get_or ns to 0 ≡ n → ⊥

  -- it is not beyond the place itself
  at_once : (k to : ℕ) → k ≤ length ns → to ≡ k → (k < length ns → get_or ns k 0 ≡ n → ⊥) → Ending k to
  at_once k to h e other =
      record {
        within = omega arith;
        same = λ j l m. absurd (omega arith);
        ends = subst (λ (t : ℕ). t < length ns → get_or ns t 0 ≡ n → ⊥) {x = k} {y = to} (omega arith) other;
      }

  -- it is behind an equal entry
  later : (k to to' : ℕ) → get_or ns k 0 ≡ n → to ≡ to' → Ending (k + 1) to' → Ending k to
  later k to to' e here on =
      record {
        within = omega (arith, on.within);
        same = λ j l m. go j l m (ℕ_discrete j k);
        ends = subst (λ (t : ℕ). t < length ns → get_or ns t 0 ≡ n → ⊥) {x = to'} {y = to} (omega arith) on.ends;
      }
    where
      go : (j : ℕ) → k ≤ j → j < to → Dec (j ≡ k) → get_or ns j 0 ≡ n
      go j l m (yes is) = rw is e
      go j l m (no other) = on.same j (omega arith) (omega arith)

  ending : (left k : ℕ) → k + left ≡ length ns → Ending k (k + equals_in_front n (drop k ns))
  ending zero k e = at_once k _ (omega arith) (omega (arith, none-next k (omega arith))) (λ h. absurd (omega arith))
  ending (suc left) k e = go (ℕ_discrete (get_or ns k 0) n) (ending left (k + 1) (omega arith))
    where
      go : Dec (get_or ns k 0 ≡ n) → Ending (k + 1) ((k + 1) + equals_in_front n (drop (k + 1) ns)) → Ending k (k + equals_in_front n (drop k ns))
      go (yes is) on = later k _ _ is (omega (arith, equal_next k (omega arith) is)) on
      go (no other) on = at_once k _ (omega arith) (omega (arith, other-next k (omega arith) other)) (λ h. other)

  -- the place reached, and the equal entries from there on, make up the end: one more of them, another entry, and the last of all
  module _ {k end : ℕ} (so_far : k + equals_in_front n (drop k ns) ≡ end) where
    pub end_later : k < length ns → get_or ns k 0 ≡ n → (k + 1) + equals_in_front n (drop (k + 1) ns) ≡ end
    end_later h e = omega (arith, equal_next k h e)

    pub end-here : k < length ns → (get_or ns k 0 ≡ n → ⊥) → k ≡ end
    end-here h e = omega (arith, other-next k h e)

    pub end-last : length ns ≤ k → k ≡ end
    end-last h = omega (arith, none-next k h)

module _ (ns : List ℕ) (from : ℕ) where
  pub end-behind : length ns ≤ from → from ≡ equals_end_of ns from
  unfolding equals_end_of
  end-behind h = omega (arith, none-next ns (get_or ns from 0) from h)

  pub end-begins : from < length ns → (from + 1) + equals_in_front (get_or ns from 0) (drop (from + 1) ns) ≡ equals_end_of ns from
  unfolding equals_end_of
  end-begins h = omega (arith, equal_next ns (get_or ns from 0) from h refl)

  -- what the published end means
  ends_there : from < length ns → Equals ns from (equals_end_of ns from)
  unfolding equals_end_of
  ends_there h =
      let end = ending ns (get_or ns from 0) (length ns - from) from (omega arith) in
      record {
        further = omega (arith, equal_next ns (get_or ns from 0) from h refl);
        within = end.within;
        same = end.same;
        ends = end.ends;
      }

  pub equals-end : {to : ℕ} → to ≡ equals_end_of ns from → from < length ns → Equals ns from to
  equals-end told h = rw told (ends_there h)

-- a sum goes on over places where what is summed is the same
sum_same : (f : ℕ → ℕ) (from n : ℕ) → ((k : ℕ) → from ≤ k → k < from + n → f k ≡ f from) → sum_below (from + n) f ≡ sum_below from f + n * f from
unfolding sum_below
sum_same f from zero same = ap (λ (k : ℕ). sum_below k f) {x = from + 0} {y = from} (omega arith) ∙ omega arith
sum_same f from (suc n) same =
    ap (λ (k : ℕ). sum_below k f) {x = from + suc n} {y = suc (from + n)} (omega arith)
    ∙ omega (arith, sum_same f from n (λ k h l. same k h (omega arith)), same (from + n) (omega arith) (omega arith))

pub sum-equals : (f : ℕ → ℕ) {ns : List ℕ} {from to : ℕ} → Equals ns from to → sum_below to (λ k. f (get_or ns k 0)) ≡ sum_below from (λ k. f (get_or ns k 0)) + (to - from) * f (get_or ns from 0)
sum-equals f {ns} {from} {to} run =
    ap (λ (n : ℕ). sum_below n (λ k. f (get_or ns k 0))) {x = to} {y = from + (to - from)} (omega (arith, run.further))
    ∙ sum_same (λ k. f (get_or ns k 0)) from (to - from) (λ k h l. ap f (run.same k h (omega (arith, run.further))))
