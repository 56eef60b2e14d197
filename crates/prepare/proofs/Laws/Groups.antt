-- The sets one after the other: where each begins and what stands there.
use mathlib.Core.Bool.{Bool, true, false, cond}
use mathlib.Core.List.{List, [], ◌∷◌, ◌++◌, append_assoc, append-nil}
use mathlib.Core.Logic.{⊎_elim}
use mathlib.Core.Path.{◌≡◌, refl, sym, ap, ◌∙◌}
use Prim.Native.Nat.{ℕ, zero, suc, ◌+◌, ◌≤◌, ◌<◌}
use native.Mathlib.Decide.{ℕ_discrete}
use native.Mathlib.Nat.{eq-or-lt_of_le}
use native.Mathlib.Omega.{arith}
use lib.Dec.{eqb}
use lib.ListN.{length, take, drop, length-append, length-drop}
use lib.Seq.{take_all, take-append-le, drop-append-le, drop_at}
use borrow.Author.Tests.{eq-eqb, ne_eqb}
use Rattle.model.proofs.Laws.Counting.{sum-below-add, sum-below-zero}
use Rattle.model.proofs.Laws.Sorted.{sorted-length}
use Rattle.model.proofs.Laws.Stretch.{having-length}
use Rattle.model.specs.Counting.{sum_below, one_if, count_if}
use Rattle.model.specs.Events.{Event, event, events, having, set_size, greatest_set_of, set_count}
use Rattle.prepare.specs.Prepared.{laid_out_set, grouped_from, grouped, start_of}

-- as many events as edges
pub events-length : (es xs : List ℕ) → length es ≡ length xs → length (events es xs) ≡ length es
unfolding events
events-length [] xs e = refl
events-length (a ∷ es) [] e = absurd (omega arith)
events-length (a ∷ es) (x ∷ xs) e = ap suc (events-length es xs (omega arith))

-- the events of a set are those of its edges and its offsets
pub having-events : (s : ℕ) (sets es xs : List ℕ) → length es ≡ length xs → having s sets (events es xs) ≡ events (having s sets es) (having s sets xs)
unfolding having events
having-events s [] es xs e = refl
having-events s (t ∷ sets) [] xs e = refl
having-events s (t ∷ sets) (a ∷ es) [] e = absurd (omega arith)
having-events s (t ∷ sets) (a ∷ es) (x ∷ xs) e = go (eqb t s) (having-events s sets es xs (omega arith))
  where
    go : (b : Bool) → having s sets (events es xs) ≡ events (having s sets es) (having s sets xs)
        → cond b (event a x ∷ having s sets (events es xs)) (having s sets (events es xs))
        ≡ events (cond b (a ∷ having s sets es) (having s sets es)) (cond b (x ∷ having s sets xs) (having s sets xs))
    go true rest = ap (λ (l : List Event). event a x ∷ l) rest
    go false rest = rest

-- one of the numbers below n is t
one_below : (n t : ℕ) → t < n → sum_below n (λ s. one_if (eqb t s)) ≡ 1
unfolding sum_below one_if
one_below zero t h = absurd (omega arith)
one_below (suc n) t h = go (ℕ_discrete t n) (λ l. one_below n t l)
  where
    go : Dec (t ≡ n) → (t < n → sum_below n (λ s. one_if (eqb t s)) ≡ 1) → sum_below (suc n) (λ s. one_if (eqb t s)) ≡ 1
    go (yes e) rest =
        let none : sum_below n (λ s. one_if (eqb t s)) ≡ 0 = sum-below-zero n _ (λ s l. ap one_if (ne_eqb t s (λ q. omega arith))) in
        simp (eq-eqb t n e) (omega arith)
    go (no e) rest = simp (ne_eqb t n e) (omega (arith, rest (omega arith)))

-- every event is in one of the sets up to the greatest
sizes-total : (n : ℕ) (sets : List ℕ) → greatest_set_of sets < n → sum_below n (set_size sets) ≡ length sets
unfolding set_size count_if greatest_set_of
sizes-total n [] h = sum-below-zero n _ (λ i l. refl)
sizes-total n (t ∷ sets) h =
    sum-below-add n (λ s. one_if (eqb t s)) (set_size sets)
    ∙ omega (arith, one_below n t (omega arith), sizes-total n sets (omega arith))

pub starts-total : (sets : List ℕ) → start_of sets (set_count sets) ≡ length sets
unfolding start_of set_count
starts-total sets = sizes-total (suc (greatest_set_of sets)) sets (omega arith)

pub events-total : {A : Type 0} (sets : List ℕ) (es : List A) → length sets ≡ length es → start_of sets (set_count sets) ≡ length es
events-total sets es e = starts-total sets ∙ e

-- a set begins where the one before it ends
pub start-next : (sets : List ℕ) (s : ℕ) → start_of sets (suc s) ≡ start_of sets s + set_size sets s
unfolding start_of sum_below
start-next sets s = refl

pub start_first : (sets : List ℕ) → start_of sets 0 ≡ 0
unfolding start_of sum_below
start_first sets = refl

pub starts-rise : (sets : List ℕ) (s n : ℕ) → s ≤ n → start_of sets s ≤ start_of sets n
starts-rise sets s zero h = let e : s ≡ 0 = omega arith in rw e (omega arith)
starts-rise sets s (suc n) h =
    ⊎_elim (λ e. rw e (omega arith))
    (λ l. omega (arith, starts-rise sets s n (omega arith), start-next sets n))
    (eq-or-lt_of_le {n = s} {m = suc n} h)

module _ (sets : List ℕ) (es : List Event) where
  -- the last set stands behind the others
  grouped-last-from : (s n : ℕ) → grouped_from sets es s (suc n) ≡ grouped_from sets es s n ++ laid_out_set sets es (s + n)
  unfolding grouped_from
  grouped-last-from s zero = append-nil _ ∙ ap (laid_out_set sets es) (omega arith)
  grouped-last-from s (suc n) =
      let next : suc s + n ≡ s + suc n = omega arith in
      ap (λ (l : List Event). laid_out_set sets es s ++ l) (grouped-last-from (suc s) n ∙ ap (λ (k : ℕ). grouped_from sets es (suc s) n ++ laid_out_set sets es k) next)
      ∙ sym (append_assoc (laid_out_set sets es s) (grouped_from sets es (suc s) n) (laid_out_set sets es (s + suc n)))

  pub grouped-last : (n : ℕ) → grouped_from sets es 0 (suc n) ≡ grouped_from sets es 0 n ++ laid_out_set sets es n
  grouped-last n = grouped-last-from 0 n ∙ ap (λ (k : ℕ). grouped_from sets es 0 n ++ laid_out_set sets es k) (omega arith)

  module _ (same : length sets ≡ length es) where
    pub laid-out-length : (s : ℕ) → length (laid_out_set sets es s) ≡ set_size sets s
    unfolding laid_out_set
    laid-out-length s = sorted-length (having s sets es) ∙ having-length s sets es same

    pub grouped-length : (n : ℕ) → length (grouped_from sets es 0 n) ≡ start_of sets n
    unfolding grouped_from
    grouped-length zero = sym (start_first sets)
    grouped-length (suc n) =
        ap length (grouped-last n)
        ∙ length-append (grouped_from sets es 0 n) (laid_out_set sets es n)
        ∙ omega (arith, grouped-length n, laid-out-length n, start-next sets n)

    -- the slice of set s among the first n sets
    slice-among : (n s : ℕ) → s < n → take (set_size sets s) (drop (start_of sets s) (grouped_from sets es 0 n)) ≡ laid_out_set sets es s
    slice-among zero s h = absurd (omega arith)
    slice-among (suc n) s h =
        ap (λ (l : List Event). take (set_size sets s) (drop (start_of sets s) l)) (grouped-last n)
        ∙ ⊎_elim last (λ l. earlier l (slice-among n s l)) (eq-or-lt_of_le {n = s} {m = n} (omega arith))
      where
        last : s ≡ n → take (set_size sets s) (drop (start_of sets s) (grouped_from sets es 0 n ++ laid_out_set sets es n)) ≡ laid_out_set sets es s
        last e = rw (← e) (ap (take (set_size sets s)) (drop_at (grouped_from sets es 0 s) (laid_out_set sets es s) (start_of sets s) (grouped-length s)) ∙ take_all (set_size sets s) (laid_out_set sets es s) (omega (arith, laid-out-length s)))

        earlier : s < n → take (set_size sets s) (drop (start_of sets s) (grouped_from sets es 0 n)) ≡ laid_out_set sets es s
            → take (set_size sets s) (drop (start_of sets s) (grouped_from sets es 0 n ++ laid_out_set sets es n)) ≡ laid_out_set sets es s
        earlier l rest =
            let before-n = starts-rise sets (suc s) n l in
            let next = start-next sets s in
            let long = grouped-length n in
            let shorter = length-drop (start_of sets s) (grouped_from sets es 0 n) in
            ap (take (set_size sets s)) (drop-append-le (start_of sets s) (grouped_from sets es 0 n) (laid_out_set sets es n) (omega arith))
            ∙ take-append-le (set_size sets s) (drop (start_of sets s) (grouped_from sets es 0 n)) (laid_out_set sets es n) (omega arith)
            ∙ rest

    -- what stands where set s begins
    pub set-slice : (s : ℕ) → s < set_count sets → take (set_size sets s) (drop (start_of sets s) (grouped sets es)) ≡ laid_out_set sets es s
    unfolding grouped
    set-slice s h = slice-among (set_count sets) s h
