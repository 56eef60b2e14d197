-- Set sizes and the greatest set number, as a loop over the set numbers finds them.
use mathlib.Core.Bool.{Bool, true, false}
use mathlib.Core.List.{List, [], ◌∷◌}
use mathlib.Core.Path.{◌≡◌, refl, ◌∙◌, sym, ap}
use Prim.Native.Nat.{ℕ, suc, ◌+◌, ◌≤◌, ◌<◌, max}
use native.Mathlib.Numerals.{add-one}
use native.Mathlib.Omega.{arith}
use borrow.Author.Tests.{eqb-true, eqb-false}
use lib.Dec.{eqb}
use lib.ListN.{length, get_or, set, drop, replicate, length-set, length-replicate, get_or-replicate, drop_of_length-le}
use lib.Seq.{drop-cons, get_or-set_same, get_or-set_other}
use Rattle.model.specs.Counting.{count_if, one_if}
use Rattle.model.specs.Events.{set_size, greatest_set_of}
use Rattle.model.specs.Limits.{max_set}

-- a list from index k on begins with its element at k
from_on : (sets : List ℕ) (k : ℕ) → k < length sets → drop k sets ≡ get_or sets k 0 ∷ drop (k + 1) sets
from_on sets k h = rw (add-one, drop-cons sets k 0)

-- the sizes are those of the sets up to index k
pub record Counted (sets sizes : List ℕ) (k : ℕ) : Type 0 where
  pub to : k ≤ length sets
  pub long : length sizes ≡ suc max_set
  pub counted : (s : ℕ) → s ≤ max_set → get_or sizes s 0 + set_size (drop k sets) s ≡ set_size sets s

-- one set number more in front
size-cons : (t : ℕ) (ts : List ℕ) (s : ℕ) → set_size (t ∷ ts) s ≡ one_if (eqb t s) + set_size ts s
unfolding set_size count_if
size-cons t ts s = refl

-- no set has more events than there are
pub size_small : (sets : List ℕ) (s : ℕ) → set_size sets s ≤ length sets
unfolding set_size count_if one_if
size_small [] s = omega arith
size_small (t ∷ ts) s = by (eqb t s) (size_small ts s)
  where
    by : (same : Bool) → set_size ts s ≤ length ts → one_if same + set_size ts s ≤ suc (length ts)
    by true h = omega arith
    by false h = omega arith

-- nothing counted yet
pub counted_none : (sets : List ℕ) → Counted sets (replicate (suc max_set) 0) 0
counted_none sets =
    record {
      to = omega arith;
      long = length-replicate {A = ℕ} (suc max_set) 0;
      counted = λ s small. rw (get_or-replicate {A = ℕ} (suc max_set) s 0 0 (omega arith)) (omega arith);
    }

-- the event at index k is one more or none of set s
size-from : (sets : List ℕ) (k s : ℕ) (same : Bool) → k < length sets → eqb (get_or sets k 0) s ≡ same → set_size (drop k sets) s ≡ one_if same + set_size (drop (k + 1) sets) s
size-from sets k s same h e =
    ap (λ (l : List ℕ). set_size l s) (from_on sets k h) ∙ size-cons (get_or sets k 0) (drop (k + 1) sets) s ∙ rw e

-- one more at index t of the sizes, seen at index s
size-after : (sizes : List ℕ) (t s : ℕ) (same : Bool) → t < length sizes → eqb t s ≡ same → get_or (set sizes t (get_or sizes t 0 + 1)) s 0 ≡ one_if same + get_or sizes s 0
unfolding one_if
size-after sizes t s true h e = rw (← eqb-true t s e) (get_or-set_same sizes t (get_or sizes t 0 + 1) 0 h ∙ omega arith)
size-after sizes t s false h e =
    get_or-set_other sizes t s (get_or sizes t 0 + 1) 0 (λ w. eqb-false t s e (sym w)) ∙ omega arith

-- one event more is counted into its set
pub counted-more : (sets sizes : List ℕ) (k : ℕ) → Counted sets sizes k → k < length sets → get_or sets k 0 ≤ max_set → Counted sets (set sizes (get_or sets k 0) (get_or sizes (get_or sets k 0) 0 + 1)) (k + 1)
counted-more sets sizes k c h up =
    record {
      to = omega arith;
      long = length-set sizes (get_or sets k 0) (get_or sizes (get_or sets k 0) 0 + 1) ∙ c.long;
      counted = λ s small.
          omega (arith, c.counted s small, size-from sets k s (eqb (get_or sets k 0) s) h refl, size-after sizes (get_or sets k 0) s (eqb (get_or sets k 0) s) (omega (arith, c.long)) refl);
    }

-- all are counted
pub counted-all : (sets sizes : List ℕ) (k : ℕ) → Counted sets sizes k → length sets ≤ k → (s : ℕ) → s ≤ max_set → get_or sizes s 0 ≡ set_size sets s
unfolding set_size count_if
counted-all sets sizes k c end s small =
    omega (arith, c.counted s small, ap (λ (l : List ℕ). set_size l s) (drop_of_length-le sets {i = k} end))

-- the greatest set number from index k on
pub greatest-from : (sets : List ℕ) (k : ℕ) → k < length sets → greatest_set_of (drop k sets) ≡ max (get_or sets k 0) (greatest_set_of (drop (k + 1) sets))
unfolding greatest_set_of
greatest-from sets k h = ap greatest_set_of (from_on sets k h)

pub greatest-none : (sets : List ℕ) (k : ℕ) → length sets ≤ k → greatest_set_of (drop k sets) ≡ 0
unfolding greatest_set_of
greatest-none sets k h = ap greatest_set_of (drop_of_length-le sets h)

-- it is no greater than a number that none exceeds
pub greatest-small : (sets : List ℕ) (m : ℕ) → ((k : ℕ) → k < length sets → get_or sets k 0 ≤ m) → greatest_set_of sets ≤ m
unfolding greatest_set_of
greatest-small [] m h = omega arith
greatest-small (t ∷ ts) m h =
    let rest = greatest-small ts m (λ k l. h (suc k) (omega arith)) in
    let here : t ≤ m = h 0 (omega arith) in
    omega arith
