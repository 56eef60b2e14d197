-- Binary search: how the loop goes, and that over rising offsets it comes to the place that parts them at the limit.
use mathlib.Core.Bool.{Bool, true, false, cond}
use mathlib.Core.List.{List}
use mathlib.Core.Path.{◌≡◌, refl, sym, ap, ◌∙◌}
use Prim.Native.Nat.{ℕ, zero, suc, ◌+◌, ◌-◌, ◌/◌, ◌≤◌, ◌<◌}
use native.Mathlib.Decide.{ℕ_discrete, dec_lt}
use native.Mathlib.Omega.{arith}
use borrow.Author.Tests.{lt-ltb, le-ltb}
use lib.Dec.{ltb}
use lib.ListN.{length, get_or}
use Rattle.model.specs.Counting.{count_if}
use Rattle.edge_pair.specs.Offsets.{Ordered}
use Rattle.count_augmentation.specs.LookUp.{half_way, halved_to, place_among_of, place_of}
use Rattle.count_augmentation.specs.Thresholds.{Parted}
use Rattle.count_augmentation.proofs.Laws.Places.{count-before}

module _ (xs : List ℕ) (limit : ℕ) where
  -- with no place left a halving changes nothing
  half-none : (low : ℕ) → half_way xs limit low 0 ≡ low
  unfolding half_way
  half-none low = go (ltb (get_or xs (low + (0 - 0 / 2) - 1) 0) limit)
    where
      go : (b : Bool) → low + cond b (0 - 0 / 2) 0 ≡ low
      go true = omega arith
      go false = omega arith

  halved_none : (n low : ℕ) → halved_to xs limit n low 0 ≡ low
  unfolding halved_to
  halved_none zero low = refl
  halved_none (suc n) low = ap (λ (m : ℕ). halved_to xs limit n m 0) (half-none low) ∙ halved_none n low

  halved-step : (n low left : ℕ) → halved_to xs limit (suc n) low left ≡ halved_to xs limit n (half_way xs limit low left) (left / 2)
  unfolding halved_to
  halved-step n low left = refl

  -- as many halvings as there are places are enough
  halved-enough : (n m low left : ℕ) → left ≤ n → left ≤ m → halved_to xs limit n low left ≡ halved_to xs limit m low left
  halved-enough zero m low left h l =
      let none : left ≡ 0 = omega arith in
      rw none (halved_none 0 low ∙ sym (halved_none m low))
  halved-enough (suc n) zero low left h l =
      let none : left ≡ 0 = omega arith in
      rw none (halved_none (suc n) low ∙ sym (halved_none 0 low))
  halved-enough (suc n) (suc m) low left h l =
      halved-step n low left ∙ halved-enough n m (half_way xs limit low left) (left / 2) (omega arith) (omega arith) ∙ sym (halved-step m low left)

  -- a halving in the loop, and none left
  pub among_next : (low left r : ℕ) → 1 ≤ left → r ≡ half_way xs limit low left → place_among_of xs limit r (left / 2) ≡ place_among_of xs limit low left
  unfolding place_among_of
  among_next low zero r h e = absurd (omega arith)
  among_next low (suc n) r h e =
      rw e (halved-enough (suc n / 2) n (half_way xs limit low (suc n)) (suc n / 2) (omega arith) (omega arith) ∙ sym (halved-step n low (suc n)))

  pub among_none : (low left : ℕ) → left ≡ 0 → low ≡ place_among_of xs limit low left
  unfolding place_among_of
  among_none low left e = rw e (sym (halved_none 0 low))

  -- a halving in bounds
  pub half-within : (low left r n : ℕ) → low + left ≤ length xs → n ≡ cond (ltb (get_or xs (low + (left - left / 2) - 1) 0) limit) (left - left / 2) 0 → r ≡ low + n → r + left / 2 ≤ length xs
  half-within low left r n h e s = go (ltb (get_or xs (low + (left - left / 2) - 1) 0) limit) e
    where
      go : (b : Bool) → n ≡ cond b (left - left / 2) 0 → r + left / 2 ≤ length xs
      go true f = omega arith
      go false f = omega arith

  -- the place that parts rising offsets at the limit is among so many from low on, or right behind them
  record Bracket (low left : ℕ) : Type 0 where
    within : low + left ≤ length xs
    before : (k : ℕ) → k < low → get_or xs k 0 < limit
    after : (k : ℕ) → low + left ≤ k → k < length xs → limit ≤ get_or xs k 0

  bracket-half : Ordered xs → (low left : ℕ) → 1 ≤ left → Bracket low left → Bracket (half_way xs limit low left) (left / 2)
  unfolding half_way
  bracket-half rising low left some b = go (dec_lt (get_or xs (low + (left - left / 2) - 1) 0) limit)
    where
      go : Dec (get_or xs (low + (left - left / 2) - 1) 0 < limit) → Bracket (low + cond (ltb (get_or xs (low + (left - left / 2) - 1) 0) limit) (left - left / 2) 0) (left / 2)
      go (yes h) =
          rw (lt-ltb (get_or xs (low + (left - left / 2) - 1) 0) limit h)
          (record {
            within = omega (arith, b.within);
            before = λ k l. omega (arith, rising.in_order k (low + (left - left / 2) - 1) (omega arith) (omega (arith, b.within)));
            after = λ k l m. b.after k (omega arith) m;
          })
      go (no h) =
          rw (le-ltb (get_or xs (low + (left - left / 2) - 1) 0) limit (omega arith))
          (record {
            within = omega (arith, b.within);
            before = λ k l. b.before k (omega arith);
            after = λ k l m. omega (arith, rising.in_order (low + (left - left / 2) - 1) k (omega arith) m);
          })

  bracket-ends : (low left : ℕ) → Bracket low left → left ≡ 0 → Parted xs limit low
  bracket-ends low left b h =
      record {
        not_below = record { within = omega (arith, b.within); after = λ k l m. b.after k (omega arith) m };
        before = b.before;
      }

  halved-parted : Ordered xs → (n low left : ℕ) → left ≤ n → Bracket low left → Parted xs limit (halved_to xs limit n low left)
  halved-parted rising zero low left h b = unfold halved_to in bracket-ends low left b (omega arith)
  halved-parted rising (suc n) low left h b =
      go (ℕ_discrete left 0) (λ (some : 1 ≤ left). halved-parted rising n (half_way xs limit low left) (left / 2) (omega arith) (bracket-half rising low left some b))
    where
      go : Dec (left ≡ 0) → (1 ≤ left → Parted xs limit (halved_to xs limit n (half_way xs limit low left) (left / 2))) → Parted xs limit (halved_to xs limit (suc n) low left)
      go (yes e) on = rw (e, halved_none (suc n) low) (bracket-ends low left b e)
      go (no e) on = rw (halved-step n low left) (on (omega arith))

  pub place-parted : Ordered xs → Parted xs limit (place_of xs limit)
  unfolding place_of place_among_of
  place-parted rising =
      halved-parted rising (length xs) 0 (length xs) (omega arith)
      (record { within = omega arith; before = λ k l. absurd (omega arith); after = λ k l m. absurd (omega arith) })

  -- so many offsets are below the limit
  pub place-counts : Ordered xs → place_of xs limit ≡ count_if (λ y. ltb y limit) xs
  place-counts rising =
      let parted = place-parted rising in
      sym (count-before _ xs (place_of xs limit) parted.not_below.within (λ k l. lt-ltb _ _ (parted.before k l)) (λ k l m. le-ltb _ _ (parted.not_below.after k l m)))
