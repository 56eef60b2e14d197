-- Counts over rising offsets told by a place: what is below a limit stands before it, the rest from it on.
use mathlib.Core.Bool.{Bool, true, false, not}
use mathlib.Core.List.{List, [], ◌∷◌}
use mathlib.Core.Path.{◌≡◌, refl, sym, ap, ◌∙◌}
use Prim.Native.Nat.{ℕ, zero, suc, pred, ◌+◌, ◌-◌, ◌≤◌, ◌<◌}
use native.Mathlib.Decide.{dec_le}
use native.Mathlib.Omega.{arith}
use borrow.Author.Tests.{le-leb, lt-leb, lt-ltb, le-ltb}
use lib.Dec.{leb, ltb}
use lib.ListN.{length, get_or}
use Rattle.model.proofs.Laws.Arrival.{count-places}
use Rattle.model.specs.Counting.{one_if, count_if}
use Rattle.model.specs.Location.{at_first, at_second, gap}
use Rattle.count_augmentation.specs.Augmented.{no_farther}
use Rattle.edge_pair.specs.Offsets.{Ordered, OnEdge}
use Rattle.count_augmentation.specs.LookUp.{stored_before}
use Rattle.count_augmentation.specs.Storing.{at_most, at_least, NumbersStored}
use Rattle.count_augmentation.specs.Thresholds.{Parted}

-- a test that holds before a place and fails from it on counts the place
pub count-before : (test : ℕ → Bool) (xs : List ℕ) (place : ℕ) → place ≤ length xs → ((k : ℕ) → k < place → test (get_or xs k 0) ≡ true) → ((k : ℕ) → place ≤ k → k < length xs → test (get_or xs k 0) ≡ false) → count_if test xs ≡ place
unfolding count_if one_if
count-before test [] place h on off = omega arith
count-before test (x ∷ xs) zero h on off =
    let rest : count_if test xs ≡ 0 = count-before test xs zero (omega arith) (λ k l. absurd (omega arith)) (λ k l m. off (suc k) (omega arith) (omega arith)) in
    rw (off 0 (omega arith) (omega arith)) (omega arith)
count-before test (x ∷ xs) (suc place) h on off =
    let rest : count_if test xs ≡ place = count-before test xs place (omega arith) (λ k l. on (suc k) (omega arith)) (λ k l m. off (suc k) (omega arith) (omega arith)) in
    rw (on 0 (omega arith)) (omega arith)

-- those that fail a test and those that pass it
pub count-not : (test : ℕ → Bool) (xs : List ℕ) → count_if (λ x. not (test x)) xs + count_if test xs ≡ length xs
unfolding count_if one_if
count-not test [] = omega arith
count-not test (x ∷ xs) = go (test x) (count-not test xs)
  where
    go : (b : Bool) → count_if (λ x. not (test x)) xs + count_if test xs ≡ length xs → (one_if (not b) + count_if (λ x. not (test x)) xs) + (one_if b + count_if test xs) ≡ suc (length xs)
    go true e = omega arith
    go false e = omega arith

-- nothing stands past the end
past_end : (l : List ℕ) (k : ℕ) → length l ≤ k → get_or l k 0 ≡ 0
past_end [] k h = refl
past_end (x ∷ l) zero h = absurd (omega arith)
past_end (x ∷ l) (suc k) h = past_end l k (omega arith)

-- what is read before a place
pub stored-none : (near : List ℕ) (n : ℕ) → n ≡ 0 → 0 ≡ stored_before near n
unfolding stored_before
stored-none near n e = rw e

pub stored_some : (near : List ℕ) (n : ℕ) → 1 ≤ n → get_or near (n - 1) 0 ≡ stored_before near n
unfolding stored_before
stored_some near zero h = absurd (omega arith)
stored_some near (suc n) h = ap (λ (k : ℕ). get_or near k 0) {x = suc n - 1} {y = n} (omega arith)

-- a test that fails before a place and holds from it on counts what is left
pub count-after : (test : ℕ → Bool) (xs : List ℕ) (place : ℕ) → place ≤ length xs → ((k : ℕ) → k < place → test (get_or xs k 0) ≡ false) → ((k : ℕ) → place ≤ k → k < length xs → test (get_or xs k 0) ≡ true) → count_if test xs ≡ length xs - place
count-after test xs place h off on =
    omega (arith, count-not test xs, count-before (λ x. not (test x)) xs place h (λ k l. ap not (off k l)) (λ k l m. ap not (on k l m)))

module _ (xs : List ℕ) (rising : Ordered xs) where
  -- the offset at a place is the last of its kind: as many are at most that offset as stand up to it
  pub last-equal : (k : ℕ) → k < length xs → (suc k < length xs → get_or xs k 0 < get_or xs (suc k) 0) → at_most xs (get_or xs k 0) ≡ suc k
  unfolding at_most
  last-equal k h further =
      count-before _ xs (suc k) h
      (λ j l. le-leb _ _ (rising.in_order j k (omega arith) h))
      (λ j l m. lt-leb (get_or xs j 0) (get_or xs k 0) (omega (arith, further (omega arith), rising.in_order (suc k) j l m)))

  -- it is the first of its kind: as many are at least that offset as stand from it on
  pub first-equal : (k : ℕ) → k < length xs → (0 < k → get_or xs (pred k) 0 < get_or xs k 0) → at_least xs (get_or xs k 0) ≡ length xs - k
  unfolding at_least
  first-equal k h further =
      count-after _ xs k (omega arith)
      (λ j l. lt-leb (get_or xs k 0) (get_or xs j 0) (omega (arith, further (omega arith), rising.in_order j (pred k) (omega arith) (omega arith))))
      (λ j l m. le-leb _ _ (rising.in_order k j l m))

  module _ (limit place : ℕ) (parted : Parted xs limit place) where
    -- what is stored with the last offset below a limit is how many are below it
    pub below-stored : 0 < place → at_most xs (get_or xs (pred place) 0) ≡ count_if (λ y. ltb y limit) xs
    unfolding at_most
    below-stored h =
        let within = parted.not_below.within in
        let last = parted.before (pred place) (omega arith) in
        count-before _ xs place within
        (λ k l. le-leb _ _ (rising.in_order k (pred place) (omega arith) (omega arith)))
        (λ k l m. lt-leb (get_or xs k 0) (get_or xs (pred place) 0) (omega (arith, parted.not_below.after k l m)))
        ∙ sym (count-before _ xs place within (λ k l. lt-ltb _ _ (parted.before k l)) (λ k l m. le-ltb _ _ (parted.not_below.after k l m)))

    pub none_below : place ≡ 0 → count_if (λ y. ltb y limit) xs ≡ 0
    none_below e = count-before _ xs 0 (omega arith) (λ k l. absurd (omega arith)) (λ k l m. le-ltb _ _ (parted.not_below.after k (omega arith) m))

    -- what is stored with the first offset not below a limit is how many are not below it
    pub from-stored : place < length xs → at_least xs (get_or xs place 0) ≡ count_if (λ y. leb limit y) xs
    unfolding at_least
    from-stored h =
        let within = parted.not_below.within in
        let first = parted.not_below.after place (omega arith) h in
        count-after _ xs place within
        (λ k l. lt-leb (get_or xs place 0) (get_or xs k 0) (omega (arith, parted.before k l)))
        (λ k l m. le-leb _ _ (rising.in_order place k l m))
        ∙ sym (count-after _ xs place within (λ k l. lt-leb _ _ (parted.before k l)) (λ k l m. le-leb _ _ (parted.not_below.after k l m)))

    pub none_from : place ≡ length xs → count_if (λ y. leb limit y) xs ≡ 0
    none_from e =
        count-before _ xs 0 (omega arith) (λ k l. absurd (omega arith)) (λ k l m. lt-leb _ _ (parted.before k (omega arith)))

-- no farther from the first end is at most the offset, no farther from the second is at least it
pub no-farther-first : (p : ℕ) (xs : List ℕ) (x : ℕ) → no_farther p at_first xs x ≡ at_most xs x
unfolding no_farther gap at_most
no-farther-first p xs x = refl

turned : (p x y : ℕ) → x ≤ p → y ≤ p → leb (p - y) (p - x) ≡ leb x y
turned p x y h l = go (dec_le x y)
  where
    go : Dec (x ≤ y) → leb (p - y) (p - x) ≡ leb x y
    go (yes m) = le-leb (p - y) (p - x) (omega arith) ∙ sym (le-leb x y m)
    go (no m) = lt-leb (p - y) (p - x) (omega arith) ∙ sym (lt-leb x y (omega arith))

pub no-farther-second : (p : ℕ) (xs : List ℕ) → OnEdge p xs → (x : ℕ) → x ≤ p → no_farther p at_second xs x ≡ at_least xs x
unfolding no_farther gap at_least
no-farther-second p xs on_edge x h = count-places _ _ xs (λ k l. turned p x (get_or xs k 0) h (on_edge.on k l))

-- the two lists hold the stored numbers
pub numbers-stored : (p : ℕ) (xs near_first near-second : List ℕ) → OnEdge p xs → ((k : ℕ) → k < length xs → get_or near_first k 0 ≡ at_most xs (get_or xs k 0)) → ((k : ℕ) → k < length xs → get_or near-second k 0 ≡ at_least xs (get_or xs k 0)) → NumbersStored p xs near_first near-second
numbers-stored p xs near_first near-second on_edge first second =
    record {
      first_at_of = λ k h. first k h ∙ sym (no-farther-first p xs _);
      second_at = λ k h. second k h ∙ sym (no-farther-second p xs on_edge _ (on_edge.on k h));
    }

module _ (p : ℕ) (xs near_first near-second : List ℕ) (on_edge : OnEdge p xs) (stored : NumbersStored p xs near_first near-second) where
  pub stored-first : (k : ℕ) → k < length xs → get_or near_first k 0 ≡ at_most xs (get_or xs k 0)
  stored-first k h = stored.first_at_of k h ∙ no-farther-first p xs _

  pub stored-second : (k : ℕ) → k < length xs → get_or near-second k 0 ≡ at_least xs (get_or xs k 0)
  stored-second k h = stored.second_at k h ∙ no-farther-second p xs on_edge _ (on_edge.on k h)

  -- read from right numbers at a place, they are how many offsets are below a limit and how many are not
  module _ (rising : Ordered xs) (limit place : ℕ) (parted : Parted xs limit place) where
    pub read_below : stored_before near_first place ≡ count_if (λ y. ltb y limit) xs
    read_below = go place refl
      where
        later : (n : ℕ) → suc n ≡ place → get_or near_first n 0 ≡ count_if (λ y. ltb y limit) xs
        later n e =
            let last : n ≡ pred place = omega arith in
            stored-first n (omega (arith, parted.not_below.within)) ∙ ap (λ (k : ℕ). at_most xs (get_or xs k 0)) last ∙ below-stored xs rising limit place parted (omega arith)

        go : (n : ℕ) → n ≡ place → stored_before near_first n ≡ count_if (λ y. ltb y limit) xs
        go zero e = unfold stored_before in sym (none_below xs rising limit place parted (sym e))
        go (suc n) e = unfold stored_before in later n e

    pub read-from : length near-second ≡ length xs → get_or near-second place 0 ≡ count_if (λ y. leb limit y) xs
    read-from long = go (dec_le (length xs) place)
      where
        go : Dec (length xs ≤ place) → get_or near-second place 0 ≡ count_if (λ y. leb limit y) xs
        go (yes h) = past_end near-second place (omega arith) ∙ sym (none_from xs rising limit place parted (omega (arith, parted.not_below.within)))
        go (no h) = stored-second place (omega arith) ∙ from-stored xs rising limit place parted (omega arith)
