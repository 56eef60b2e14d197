-- What is looked up in a ladder is the number of the steps that do not admit so many metres.
use mathlib.Core.Bool.{Bool, true, false, cond}
use mathlib.Core.List.{List}
use mathlib.Core.Path.{◌≡◌, refl, sym, ◌∙◌}
use Prim.Native.Nat.{ℕ, suc, ◌+◌, ◌-◌, ◌≤◌, ◌<◌, min}
use native.Mathlib.Decide.{ℕ_discrete, dec_lt}
use native.Mathlib.Nat.{mod-lt}
use native.Mathlib.Omega.{arith}
use borrow.Author.Tests.{le-leb, lt-leb, lt-ltb, le-ltb, eq-eqb, ne_eqb}
use lib.Dec.{eqb, leb, ltb}
use lib.ListN.{length, get_or}
use Rattle.model.specs.Limits.{max_thresholds}
use Rattle.range_query.specs.Ladder.{last_step, shift_at, kind_at, last_cell, shift_end, exact, shift_of, cells_of, narrowed, by_halves_of, named_by, by_steps_of, place_in, found_in, bucket_in, Bracket, Level, Celled, Placed, LadderOf}
use Rattle.range_query.specs.declared.lookup.Cells.TheVariants.{EachMetre, Wide}

-- what is read of a ladder
pub shift-to : (ladder : List ℕ) → shift_of ladder < shift_end
shift-to ladder = mod-lt (get_or ladder shift_at 0) (omega arith)

-- which of the two kinds the cells are of
is-each : (b : Bool) (s : ℕ) → EachMetre ≡ cond b EachMetre (Wide s) → b ≡ true
is-each true s e = refl
is-each false s e = cc

is-wide : (b : Bool) (t s : ℕ) → Wide t ≡ cond b EachMetre (Wide s) → (b ≡ false) × (t ≡ s)
is-wide true t s e = absurd (cc)
is-wide false t s e = (refl, cc)

-- what is found by cells of one metre, and without them
pub found-place : (ladder : List ℕ) → EachMetre ≡ cells_of ladder → (d : ℕ) → found_in ladder d ≡ place_in ladder d
unfolding cells_of found_in
found-place ladder told d = rw (is-each (eqb (get_or ladder kind_at 0) exact) (shift_of ladder) told)

pub found-steps : (ladder : List ℕ) {shift : ℕ} → Wide shift ≡ cells_of ladder → (d : ℕ) → found_in ladder d ≡ by_steps_of ladder d
unfolding cells_of found_in
found-steps ladder {shift} told d = rw ((is-wide (eqb (get_or ladder kind_at 0) exact) shift (shift_of ladder) told).0)

pub found-shift : (ladder : List ℕ) {shift : ℕ} → Wide shift ≡ cells_of ladder → shift ≡ shift_of ladder
unfolding cells_of
found-shift ladder {shift} told = (is-wide (eqb (get_or ladder kind_at 0) exact) shift (shift_of ladder) told).1

-- b is the number of steps up to number last that do not admit d, or more than last
pub record Bucket (last : ℕ) (ladder : List ℕ) (d b : ℕ) : Type 0 where
  pub admits : (k : ℕ) → k ≤ last → leb b k ≡ leb d (get_or ladder k 0)

-- what is taken or not is at most all
taken-to : (b : Bool) (n : ℕ) → cond b n 0 ≤ n
taken-to true n = omega arith
taken-to false n = omega arith

-- no more than the half is passed
pub narrowed-to : (ladder : List ℕ) (d half pos : ℕ) → narrowed ladder d half pos ≤ pos + half
unfolding narrowed
narrowed-to ladder d half pos = omega (arith, taken-to (ltb (get_or ladder (pos + half - 1) 0) d) half)

-- the bucket is what is found, as far as there are steps
module _ (ladder : List ℕ) (d : ℕ) where
  pub bucket-fits : bucket_in ladder d ≤ max_thresholds
  unfolding bucket_in
  bucket-fits = omega arith

  pub bucket-found : (k : ℕ) → k < max_thresholds → leb (bucket_in ladder d) k ≡ leb (found_in ladder d) k
  unfolding bucket_in
  bucket-found k h = go (dec_lt k (found_in ladder d))
    where
      go : Dec (k < found_in ladder d) → leb (min (found_in ladder d) max_thresholds) k ≡ leb (found_in ladder d) k
      go (yes p) = lt-leb (min (found_in ladder d) max_thresholds) k (omega arith) ∙ sym (lt-leb (found_in ladder d) k p)
      go (no p) = le-leb (min (found_in ladder d) max_thresholds) k (omega arith) ∙ sym (le-leb (found_in ladder d) k (omega arith))

  -- before any step is looked at
  bracket-all : (last : ℕ) → last ≤ last_step → Bracket last ladder d 0 max_thresholds
  bracket-all last few = record { fits = omega arith; passed = λ k h. absurd (omega arith); ahead = λ k h l. absurd (omega arith) }

  -- no step left to look at
  bracket-found : {last pos : ℕ} → Bracket last ladder d pos 0 → Bucket last ladder d pos
  bracket-found {last} {pos} w = record { admits = λ k h. go k h (dec_lt k pos) }
    where
      go : (k : ℕ) → k ≤ last → Dec (k < pos) → leb pos k ≡ leb d (get_or ladder k 0)
      go k h (yes p) = lt-leb pos k p ∙ sym (lt-leb d (get_or ladder k 0) (w.passed k p))
      go k h (no p) = le-leb pos k (omega arith) ∙ sym (le-leb d (get_or ladder k 0) (w.ahead k (omega arith) h))

module _ {last : ℕ} {ladder : List ℕ} (few : last ≤ last_step) (up : Level ladder) (d : ℕ) where
  -- the last of the first half steps passed or not
  bracket-half : {pos : ℕ} (half rest : ℕ) → 1 ≤ half → half ≤ suc rest → Bracket last ladder d pos (half + rest) → Bracket last ladder d (narrowed ladder d half pos) rest
  unfolding narrowed
  bracket-half {pos} half rest some small w = go (dec_lt (get_or ladder (pos + half - 1) 0) d)
    where
      go : Dec (get_or ladder (pos + half - 1) 0 < d) → Bracket last ladder d (pos + cond (ltb (get_or ladder (pos + half - 1) 0) d) half 0) rest
      go (yes p) =
          rw (lt-ltb (get_or ladder (pos + half - 1) 0) d p)
          (record {
            fits = omega (arith, w.fits);
            passed = λ k h. omega (arith, up.level k (pos + half - 1) (omega arith) (omega (arith, w.fits)));
            ahead = λ k h l. w.ahead k (omega arith) l;
          })
      go (no p) =
          rw (le-ltb (get_or ladder (pos + half - 1) 0) d (omega arith))
          (record {
            fits = omega (arith, w.fits);
            passed = λ k h. w.passed k (omega arith);
            ahead = λ k h l. omega (arith, up.level (pos + half - 1) k (omega arith) (omega arith));
          })

  halves-bucket : Bucket last ladder d (by_halves_of ladder d)
  unfolding by_halves_of
  halves-bucket =
      let by-32 = bracket-half 32 32 (omega arith) (omega arith) (bracket-all ladder d last few) in
      let by-16 = bracket-half 16 16 (omega arith) (omega arith) by-32 in
      let by_8 = bracket-half 8 8 (omega arith) (omega arith) by-16 in
      let by_4 = bracket-half 4 4 (omega arith) (omega arith) by_8 in
      let by_2 = bracket-half 2 2 (omega arith) (omega arith) by_4 in
      let by-1 = bracket-half 1 1 (omega arith) (omega arith) by_2 in
      bracket-found ladder d (bracket-half 1 0 (omega arith) (omega arith) by-1)

  cell-bucket : Celled last ladder → named_by ladder d < max_thresholds → Bucket last ladder d (narrowed ladder d 1 (named_by ladder d))
  cell-bucket cells named = bracket-found ladder d (bracket-half 1 0 (omega arith) (omega arith) (cells.names d named))

  -- beyond the last cell nothing is admitted, as in it
  place-bucket : Placed ladder → Bucket last ladder d (place_in ladder d)
  unfolding place_in
  place-bucket w = go (dec_lt d last_cell)
    where
      held : (c k : ℕ) → c ≡ min d last_cell → k ≤ last → leb (place_in ladder d) k ≡ leb c (get_or ladder k 0)
      held c k e h = rw (← e) ((bracket-found ladder c (w.places c (omega arith))).admits k (omega arith))

      go : Dec (d < last_cell) → Bucket last ladder d (place_in ladder d)
      go (yes p) = record { admits = λ k h. held d k (omega arith) h }
      go (no p) =
          record {
            admits = λ k h. let low : get_or ladder k 0 < last_cell = omega (arith, w.beyond, up.level k last_step (omega arith) (omega arith)) in held last_cell k (omega arith) h ∙ lt-leb last_cell (get_or ladder k 0) low ∙ sym (lt-leb d (get_or ladder k 0) (omega (arith, low)));
          }

-- in the ladder of so many thresholds
pub bucket-right : {ts ladder : List ℕ} → LadderOf ts ladder → (d k : ℕ) → k < length ts → leb (bucket_in ladder d) k ≡ leb d (get_or ts k 0)
unfolding found_in by_steps_of
bucket-right {ts} {ladder} w d k h =
    bucket-found ladder d k (omega (arith, w.few))
    ∙ rw (← w.at k h) ((at_once (ℕ_discrete (get_or ladder kind_at 0) exact)).admits k (omega arith))
  where
    few : length ts - 1 ≤ last_step
    few = omega (arith, w.few)

    go : (get_or ladder kind_at 0 ≡ exact → ⊥) → Dec (named_by ladder d < max_thresholds) → Bucket (length ts - 1) ladder d (by_steps_of ladder d)
    go plain (yes p) = rw (lt-ltb (named_by ladder d) max_thresholds p) (cell-bucket few w.level d (w.celled plain) p)
    go plain (no p) = rw (le-ltb (named_by ladder d) max_thresholds (omega arith)) (halves-bucket few w.level d)

    at_once : Dec (get_or ladder kind_at 0 ≡ exact) → Bucket (length ts - 1) ladder d (found_in ladder d)
    at_once (yes p) = rw (eq-eqb (get_or ladder kind_at 0) exact p) (place-bucket few w.level d (w.placed p))
    at_once (no p) = rw (ne_eqb (get_or ladder kind_at 0) exact p) (go p (dec_lt (named_by ladder d) max_thresholds))
