-- Equal entries in a row, parted one after the other from what is left of a list, as `chunk_by` parts them.
use Rattle.std.proofs.Common.{true, ◌≡◌, ℕ, zero, suc, ◌+◌, ◌-◌, ◌*◌, ◌≤◌, ◌<◌, eqb, List, ◌++◌, length, get_or, refl, sym, ap, ◌∙◌, arith, add-one, length-append}
use Rattle.std.proofs.lemmas.List.{get_or_append_left, get_or-append-add}
use Rattle.std.specs.List.{AllAdjacentBelow, IsChunkByPrefix}
use borrow.Author.Tests.{eqb-true, eqb-false}
use Rattle.model.specs.Counting.{sum_below}
use Rattle.model.proofs.Laws.Equals.{Equals, sum-equals}
use Rattle.edge_pair.specs.Totals.{Added}
use Rattle.edge_pair.proofs.Laws.Totals.{added_none, added_then, added-as}

-- so many entries are behind
abbrev pub behind : List ℕ → List ℕ → ℕ
behind xs rest = length xs - length rest

-- what is left is the end of the list
pub record End (xs rest : List ℕ) : Type 0 where
  pub shorter : length rest ≤ length xs
  pub at : (j : ℕ) → get_or rest j 0 ≡ get_or xs (behind xs rest + j) 0

pub end-all : (xs : List ℕ) → End xs xs
end-all xs = record { shorter = omega arith; at = λ j. ap (λ (i : ℕ). get_or xs i 0) {x = j} {y = behind xs xs + j} (omega arith) }

-- the equal entries at the front of what is left, and what is left then
pub record Parted (xs rest equals next : List ℕ) : Type 0 where
  pub end : End xs rest
  pub joined : rest ≡ equals ++ next
  pub some : 0 < length equals
  pub same : IsChunkByPrefix eqb rest (length equals)

-- each equals the first
alike : (rest : List ℕ) (n : ℕ) → AllAdjacentBelow (λ x y. eqb x y ≡ true) rest n → (j : ℕ) → j < n → get_or rest j 0 ≡ get_or rest 0 0
alike rest n same zero h = refl
alike rest n same (suc j) h =
    sym (eqb-true (get_or rest j 0) (get_or rest (suc j) 0) (rw (add-one j) at (same j 0 (omega arith)))) ∙ alike rest n same j (omega arith)

module _ {xs rest equals next : List ℕ} (w : Parted xs rest equals next) where
  long : length rest ≡ length equals + length next
  long = ap length w.joined ∙ length-append equals next

  pub parted-many : behind xs next - behind xs rest ≡ length equals
  parted-many = omega (arith, long, w.end.shorter)

  pub parted-first : get_or equals 0 0 ≡ get_or xs (behind xs rest) 0
  parted-first =
      sym (get_or_append_left equals next 0 0 w.some) ∙ ap (λ (l : List ℕ). get_or l 0 0) (sym w.joined) ∙ w.end.at 0 ∙ ap (λ (i : ℕ). get_or xs i 0) {x = behind xs rest + 0} {y = behind xs rest} (omega arith)

  -- an entry behind so many of the rest
  place : (j k : ℕ) → k ≡ behind xs rest + j → get_or xs k 0 ≡ get_or rest j 0
  place j k e = ap (λ (i : ℕ). get_or xs i 0) e ∙ sym (w.end.at j)

  pub parted-equals : Equals xs (behind xs rest) (behind xs next)
  parted-equals =
      record {
        further = omega (arith, long, w.some, w.end.shorter);
        within = omega arith;
        same = λ k l h. place (k - behind xs rest) k (omega arith) ∙ alike rest (length equals) w.same.0 (k - behind xs rest) (omega (arith, long, w.end.shorter)) ∙ sym (place 0 (behind xs rest) (omega arith));
        ends = λ h e. eqb-false (get_or rest (length equals - 1) 0) (get_or rest (length equals) 0) (w.same.1 (omega (arith, long, h, w.end.shorter)) 0) (alike rest (length equals) w.same.0 (length equals - 1) (omega (arith, w.some)) ∙ sym (place 0 (behind xs rest) (omega arith)) ∙ sym e ∙ place (length equals) (behind xs next) (omega (arith, long, w.end.shorter)));
      }

  pub end-next : End xs next
  end-next =
      record {
        shorter = omega (arith, long, w.end.shorter);
        at = λ j. sym (get_or-append-add equals next j 0) ∙ ap (λ (l : List ℕ). get_or l (length equals + j) 0) (sym w.joined) ∙ sym (place (length equals + j) (behind xs next + j) (omega (arith, long, w.end.shorter)));
      }

-- what is added for each event before what is left
module _ (n : ℕ) (g : ℕ → ℕ → ℕ) where
  -- nothing yet
  pub events-none : (xs totals : List ℕ) → Added n (λ k. sum_below (behind xs xs) (λ i. g k (get_or xs i 0))) totals totals
  unfolding sum_below
  events-none xs totals =
      let e : length xs - length xs ≡ 0 = omega arith in rw e (added_none n totals)

  -- for the events at one offset more, at once
  pub events-more : {xs rest equals next old mid new : List ℕ} → Parted xs rest equals next → Added n (λ k. sum_below (behind xs rest) (λ i. g k (get_or xs i 0))) old mid → Added n (λ k. length equals * g k (get_or equals 0 0)) mid new → Added n (λ k. sum_below (behind xs next) (λ i. g k (get_or xs i 0))) old new
  events-more w a b =
      added-as (λ k h. rw (sum-equals (g k) (parted-equals w), parted-many w, ← parted-first w) refl) (added_then a b)

  pub events-all : (xs rest : List ℕ) {old new : List ℕ} → length rest ≡ 0 → Added n (λ k. sum_below (behind xs rest) (λ i. g k (get_or xs i 0))) old new → Added n (λ k. sum_below (length xs) (λ i. g k (get_or xs i 0))) old new
  events-all xs rest e a = let all : length xs - length rest ≡ length xs = omega arith in rw all at a
