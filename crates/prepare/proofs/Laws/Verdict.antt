-- The verdict of a counting method, put together from the checks that are made.
use Rattle.model.specs.declared.refusal.Fault.TheVariants.{ListsDiffer}
use mathlib.Core.Bool.{Bool, true, false}
use mathlib.Core.List.{List}
use mathlib.Core.Path.{◌≡◌, refl, sym, ◌∙◌}
use Prim.Native.Nat.{ℕ, ◌*◌, ◌/◌, ◌≤◌}
use lib.Dec.{leb}
use lib.ListN.{length}
use borrow.Author.Tests.{le-leb, lt-leb, leb-true, leb-false}
use native.Mathlib.Nat.{le-div_iff_mul-le, mul_comm, lt_of_not-le, not-le_of_lt}
use Rattle.model.proofs.Laws.CheckParts.{lists-first}
use Rattle.model.proofs.Laws.Checks.{SetsAccepted, ThresholdsAccepted, sets-accepted, thresholds-accepted}
use Rattle.model.proofs.Laws.Refusal.{or-else-next, or-else-refused, or-else-assoc, two-or-accepted, unless-accepts, unless-refuses, unless-accepted, both-accepted}
use Rattle.model.specs.Checks.{same_length_of, event_lists, set_lists, sets_over_network_check, network_values, set_numbers_check, event_values, equal_sets_check, thresholds_check}
use Rattle.model.specs.Events.{set_count}
use Rattle.model.specs.Network.{Network}
use Rattle.model.specs.Refusal.{or_else, accepted, refusal}
use Rattle.prepare.specs.Counts.{counts_check}

-- two tests that follow from each other answer alike
same_answer : (a b c d : ℕ) → (a ≤ b → c ≤ d) → (c ≤ d → a ≤ b) → leb a b ≡ leb c d
same_answer a b c d to from = go (leb a b) refl
  where
    go : (t : Bool) → leb a b ≡ t → leb a b ≡ leb c d
    go true e = e ∙ sym (le-leb c d (to (leb-true a b e)))
    go false e = e ∙ sym (lt-leb c d (lt_of_not-le (λ h. not-le_of_lt (leb-false a b e) (from h))))

-- so many at most to each of count: a quotient in place of a product
pub quotient-test : (count n room : ℕ) → 1 ≤ count → leb n (room / count) ≡ leb (count * n) room
quotient-test count n room h =
    let both = le-div_iff_mul-le {k = count} {x = n} {y = room} h in
    same_answer n (room / count) (count * n) room (λ l. rw mul_comm (both.0 l)) (λ l. both.1 (rw mul_comm at l))

module _ (net : Network) (sets es xs ts : List ℕ) (room : ℕ) where
  -- too little room is refused, whatever the lengths of the lists
  pub no_room : leb (set_count sets * length ts) room ≡ false → refusal ListsDiffer 0 ≡ counts_check net sets es xs ts room
  unfolding counts_check set_lists same_length_of event_lists
  no_room e =
      sym (lists-first net (or-else-assoc _ _ _ ∙ two-or-accepted _ _ (two-or-accepted _ _ (or-else-refused _ (unless-refuses _ ListsDiffer 0 e)))))

  -- with room enough, the sets are checked and then the thresholds
  pub with-room : leb (set_count sets * length ts) room ≡ true → or_else (sets_over_network_check net sets es xs) (thresholds_check ts) ≡ counts_check net sets es xs ts room
  unfolding counts_check sets_over_network_check
  with-room e =
      let roomy = or-else-next (or_else (network_values accepted net)
      (or_else (set_numbers_check sets) (or_else (event_values net es xs) (or_else (equal_sets_check sets) (thresholds_check ts))))) (unless-accepts (leb (set_count sets * length ts) room) ListsDiffer 0 e) in
      simp (roomy, or-else-assoc)

  -- accepted: so are the sets and the thresholds, and there is room
  pub record CountsAccepted : Type 0 where
    pub sets-are : SetsAccepted net sets es xs
    pub thresholds-are : ThresholdsAccepted ts
    pub roomy : set_count sets * length ts ≤ room

  pub counts-accepted : counts_check net sets es xs ts room ≡ accepted → CountsAccepted
  unfolding counts_check
  counts-accepted e =
      let behind-lists = (both-accepted _ _ (both-accepted _ _ e).1).1 in
      let roomy = unless-accepted (leb (set_count sets * length ts) room) ListsDiffer 0 (both-accepted _ _ behind-lists).0 in
      let both = both-accepted (sets_over_network_check net sets es xs) (thresholds_check ts) (with-room roomy ∙ e) in
      record {
        sets-are = sets-accepted net sets es xs both.0;
        thresholds-are = thresholds-accepted ts both.1;
        roomy = leb-true _ _ roomy;
      }
