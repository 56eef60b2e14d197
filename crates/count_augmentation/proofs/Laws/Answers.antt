-- The answer lists: the stored numbers of all events are those of the definition, and what stands behind them is kept.
use Rattle.model.specs.declared.refusal.Refusal.{Refusal}
use Rattle.std.specs.Prelude.{Err}
use Rattle.model.specs.Refusal.{Check, accepted}
use mathlib.Core.Bool.{cond}
use mathlib.Core.List.{List, [], ◌∷◌, ◌++◌}
use mathlib.Core.Path.{◌≡◌, refl, sym, ap, ◌∙◌}
use Prim.Native.Nat.{ℕ, zero, suc, pred, ◌+◌, ◌≤◌, ◌<◌}
use native.Mathlib.Decide.{ℕ_discrete}
use native.Mathlib.Omega.{arith}
use borrow.Author.Tests.{eq-eqb, ne_eqb}
use lib.Dec.{eqb}
use lib.ListN.{length, get_or, drop, length-append, length-drop}
use Rattle.model.proofs.Laws.Checks.{AreEvents}
use Rattle.model.proofs.Laws.Lists.{all-entries}
use Rattle.model.specs.Answer.{written}
use Rattle.model.specs.Events.{having}
use Rattle.model.specs.Location.{Side, at_first, at_second}
use Rattle.model.specs.Network.{Network, size}
use Rattle.count_augmentation.specs.Augmented.{stored, augmented, augment_check, Augmented}
use Rattle.count_augmentation.specs.Events.{EventsStored}
use Rattle.edge_pair.specs.Offsets.{OnEdge}
use Rattle.count_augmentation.proofs.Laws.Places.{no-farther-first, no-farther-second}
use Rattle.count_augmentation.proofs.Laws.Verdict.{AugmentAccepted}

-- what lies on an edge is not beyond what bounds every offset on it
having-on : (e p : ℕ) (es xs : List ℕ) → length es ≡ length xs → ((j : ℕ) → j < length es → get_or es j 0 ≡ e → get_or xs j 0 ≤ p) → (i : ℕ) → i < length (having e es xs) → get_or (having e es xs) i 0 ≤ p
unfolding having
having-on e p [] xs same on i h = absurd (omega arith)
having-on e p (t ∷ ts) [] same on i h = absurd (omega arith)
having-on e p (t ∷ ts) (x ∷ xs) same on i h =
    go (ℕ_discrete t e) (having-on e p ts xs (omega arith) (λ j l. on (suc j) (omega arith))) i h
  where
    front : t ≡ e → ((i : ℕ) → i < length (having e ts xs) → get_or (having e ts xs) i 0 ≤ p) → (i : ℕ) → i < length (x ∷ having e ts xs) → get_or (x ∷ having e ts xs) i 0 ≤ p
    front q rest zero l = on 0 (omega arith) q
    front q rest (suc i) l = rest i (omega arith)

    go : Dec (t ≡ e) → ((i : ℕ) → i < length (having e ts xs) → get_or (having e ts xs) i 0 ≤ p) → (i : ℕ) → i < length (cond (eqb t e) (x ∷ having e ts xs) (having e ts xs)) → get_or (cond (eqb t e) (x ∷ having e ts xs) (having e ts xs)) i 0 ≤ p
    go (yes q) rest = rw (eq-eqb t e q) (front q rest)
    go (no q) rest = rw (ne_eqb t e q) rest

module _ (net : Network) (es xs : List ℕ) (events : AreEvents net es xs) where
  -- the edge of an event holds every offset on it
  edge-holds : (k : ℕ) → k < length es → OnEdge (size net (pred (get_or es k 0))) (having (get_or es k 0) es xs)
  edge-holds k h =
      record {
        on = having-on (get_or es k 0) (size net (pred (get_or es k 0))) es xs events.same_length
            (λ j l same. rw (← same) (events.event-at j l).on_edge);
      }

  -- one list of numbers, whichever end it is for
  module _ (side : Side) (near : List ℕ) (long : length near ≡ length es) where
    list-augmented : ((k : ℕ) → k < length es → get_or near k 0 ≡ stored net side es xs k) → near ≡ augmented net side es xs
    unfolding augmented
    list-augmented at =
        all-entries (stored net side es xs) near 0 (length es) long (λ k h. at k h ∙ ap (stored net side es xs) {x = k} {y = 0 + k} (omega arith))

  module _ (near_first near-second : List ℕ) (numbers : EventsStored es xs (length es) near_first near-second) where
    first-augmented : length near_first ≡ length es → near_first ≡ augmented net at_first es xs
    unfolding stored
    first-augmented long =
        list-augmented at_first near_first long (λ k h. numbers.first_at_of k h ∙ sym (no-farther-first _ _ _))

    second-augmented : length near-second ≡ length es → near-second ≡ augmented net at_second es xs
    unfolding stored
    second-augmented long =
        list-augmented at_second near-second long
        (λ k h. numbers.second_at k h ∙ sym (no-farther-second _ _ (edge-holds k h) _ (events.event-at k h).on_edge))

-- what is put in front of a list that keeps its length is as long as what it stands for
front_length : (n : ℕ) (l front : List ℕ) → n ≤ length l → length (front ++ drop n l) ≡ length l → length front ≡ n
front_length n l front h e = omega (arith, simp (length-append, length-drop) at e)

-- the list when the function returns
refused-kept : {r : Check} {x : Refusal} (answers old : List ℕ) → r ≡ Err x → old ≡ written r answers old
unfolding written
refused-kept answers old e = rw e refl

accepted-front : {r : Check} (answers old front : List ℕ) (n : ℕ) → r ≡ accepted → front ≡ answers → length front ≡ n → front ++ drop n old ≡ written r answers old
unfolding written
accepted-front answers old front n e same long = rw (e, ← same, long) refl

module _ {net : Network} {es xs near_first near-second : List ℕ} {r : Check} (verdict : r ≡ augment_check net es xs near_first near-second) where
  -- on refusal both lists are kept
  pub augment-refused : {x : Refusal} → r ≡ Err x → Augmented net es xs near_first near-second r near_first near-second
  augment-refused told =
      record {
        verdict = verdict;
        first_after = refused-kept _ near_first (sym verdict ∙ told);
        second_after = refused-kept _ near-second (sym verdict ∙ told);
      }

  -- on acceptance the stored numbers stand in front of what stood behind them
  pub augment-answered : r ≡ accepted → AugmentAccepted net es xs near_first near-second → (first second : List ℕ) → length (first ++ drop (length es) near_first) ≡ length near_first → length (second ++ drop (length es) near-second) ≡ length near-second → EventsStored es xs (length es) first second → Augmented net es xs near_first near-second r (first ++ drop (length es) near_first) (second ++ drop (length es) near-second)
  augment-answered told ok first second hf hs numbers =
      let first-long = front_length (length es) near_first first ok.first_room_of hf in
      let second-long = front_length (length es) near-second second ok.second_room_of hs in
      let events = ok.laid.are-events in
      record {
        verdict = verdict;
        first_after = accepted-front _ near_first first (length es) (sym verdict ∙ told) (first-augmented net es xs events first second numbers first-long) first-long;
        second_after = accepted-front _ near-second second (length es) (sym verdict ∙ told) (second-augmented net es xs events first second numbers second-long) second-long;
      }
