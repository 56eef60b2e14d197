-- The columns put in front of what the answer lists held.
use mathlib.Core.List.{List, [], ◌∷◌, ◌++◌, map}
use mathlib.Core.Path.{◌≡◌, refl, ap, ◌∙◌}
use Prim.Native.Nat.{ℕ, zero, suc, ◌≤◌}
use native.Mathlib.Nat.{suc-mul}
use native.Mathlib.Omega.{arith}
use lib.ListN.{length, take, drop}
use lib.Seq.{length-take-le}
use Rattle.model.specs.Answer.{written}
use Rattle.model.specs.Counting.{numbers_from}
use Rattle.model.specs.Envelope.{Envelope, no_value, envelope_of}
use Rattle.model.specs.Refusal.{accepted}
use Rattle.table.specs.Columns.{RowsThere, ColumnsFilled, ColumnsFit, column_from, columns}
use Rattle.table.specs.Table.{ends, leasts, greatests, spanned, columns_of}
use Rattle.table.specs.declared.answers.Table.TheVariants.{Observed, Compared}

-- the first row is there
pub first-row : {rows : List ℕ} {width greatest : ℕ} → RowsThere rows width greatest → width ≤ length rows
first-row {width = width} {greatest = greatest} r = omega (arith, r.there, suc-mul greatest width)

-- how many thresholds have a least and a greatest
pub spanned-none : (greatest width : ℕ) → greatest ≡ 0 → 0 ≡ spanned greatest width
unfolding spanned
spanned-none zero width e = refl
spanned-none (suc greatest) width e = absurd (omega arith)

pub spanned-all : (greatest width : ℕ) → (greatest ≡ 0 → ⊥) → width ≡ spanned greatest width
unfolding spanned
spanned-all zero width some = absurd (some refl)
spanned-all (suc greatest) width some = refl

pub spanned-most : (greatest width : ℕ) → spanned greatest width ≤ width
unfolding spanned
spanned-most zero width = omega arith
spanned-most (suc greatest) width = omega arith

-- answers that were put into the front of a list
front-written : (answers old new : List ℕ) (n : ℕ) → new ≡ answers → length new ≡ n → new ++ drop n old ≡ written accepted answers old
unfolding written
front-written answers old new n e l = rw (← l, e) refl

-- no envelope has a value, so there are no ends
no-ends : (pick : ℕ → ℕ → ℕ) (f : ℕ → Envelope) → ((k : ℕ) → f k ≡ no_value) → (ks : List ℕ) → ends pick (map f ks) ≡ []
unfolding ends
no-ends pick f none [] = refl
no-ends pick f none (k ∷ ks) = rw (none k) (no-ends pick f none ks)

module _ {rows : List ℕ} {width greatest : ℕ} {first second third : List ℕ} (fit : ColumnsFit rows width greatest first second third) where
  observed-written : (new : List ℕ) → new ≡ take width rows → new ++ drop width first ≡ written accepted (take width rows) first
  observed-written new e =
      front-written (take width rows) first new width e (ap length e ∙ length-take-le width rows (first-row fit.rows_there))

  -- with comparison sets there is room for an entry to a threshold
  module _ (some : 1 ≤ greatest) where
    pub second_fits : width ≤ length second
    second_fits = omega (arith, spanned-all greatest width (λ e. omega arith), fit.second_room_of)

    pub third-fits : width ≤ length third
    third-fits = omega (arith, spanned-all greatest width (λ e. omega arith), fit.third_room)

  -- without comparison sets
  pub observed-alone : (new : List ℕ) → greatest ≡ 0 → new ≡ take width rows → ColumnsFilled rows width greatest first second third Observed (new ++ drop width first) second third
  unfolding leasts greatests columns column_from numbers_from envelope_of written columns_of
  observed-alone new none e =
      record {
        answer = rw none refl;
        observed_after = observed-written new e;
        lower_after = rw none (rw (no-ends (λ l u. l) (λ k. no_value) (λ k. refl) (numbers_from 0 width)) refl);
        upper_after = rw none (rw (no-ends (λ l u. u) (λ k. no_value) (λ k. refl) (numbers_from 0 width)) refl);
      }

  -- with them
  pub all-columns : (new lower upper : List ℕ) → 1 ≤ greatest → new ≡ take width rows → lower ≡ leasts (columns rows width greatest) → length lower ≡ width → upper ≡ greatests (columns rows width greatest) → length upper ≡ width → ColumnsFilled rows width greatest first second third Compared (new ++ drop width first) (lower ++ drop width second) (upper ++ drop width third)
  all-columns new lower upper some e l m u n =
      record {
        answer = compared greatest some;
        observed_after = observed-written new e;
        lower_after = front-written _ second lower width l m;
        upper_after = front-written _ third upper width u n;
      }
    where
      compared : (n : ℕ) → 1 ≤ n → Compared ≡ columns_of n
      compared zero h = absurd (omega arith)
      compared (suc n) h = unfold columns_of in refl
