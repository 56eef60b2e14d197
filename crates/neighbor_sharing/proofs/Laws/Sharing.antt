-- The six cursors, moved from event to event, whatever the events are: what is joined is added up, events at one offset at a time.
use mathlib.Core.Bool.{Bool, true, false, cond}
use mathlib.Core.List.{List}
use mathlib.Core.Path.{◌≡◌, ◌∙◌, refl, ap}
use Prim.Native.Nat.{ℕ, zero, suc, ◌+◌, ◌-◌, ◌*◌, ◌≤◌, ◌<◌}
use native.Mathlib.Nat.{mul-le-mul}
use native.Mathlib.Omega.{arith}
use lib.ListN.{length, get_or, drop, drop_of_length-le}
use lib.Seq.{drop-cons}
use Rattle.model.proofs.Laws.Equals.{Equals}
use Rattle.model.specs.Limits.{max_events}
use Rattle.edge_pair.specs.declared.edges.EdgePair.{EdgePair}
use Rattle.sweep.proofs.Laws.Moving.{moved-again}
use Rattle.sweep.specs.Moving.{moved_on, below_cursor, up_to_cursor}
use Rattle.neighbor_sharing.specs.Joined.{joined_from, shared_from, shared}
use Rattle.neighbor_sharing.specs.Stands.{route_of, route_moved, stands_moved, stands_at_rest}
use Rattle.neighbor_sharing.specs.declared.moving.Stands.{Stands}

-- moved on to one offset twice, the six stand where they did
again-if : (b : Bool) (f : ℕ → ℕ) (n : ℕ) → (f (f n) ≡ f n) → cond b (f (cond b (f n) 0)) 0 ≡ cond b (f n) 0
again-if true f n e = e
again-if false f n e = refl

route-again : (t : ℕ) (w : EdgePair) (first1 first2 : Bool) (ys : List ℕ) (x from : ℕ) → route_moved t w first1 first2 ys x (route_moved t w first1 first2 ys x from) ≡ route_moved t w first1 first2 ys x from
unfolding route_moved
route-again t w first1 first2 ys x from = moved-again (route_of t w first1 first2) w.length2 ys x from

stands-again : (t : ℕ) (w : EdgePair) (ys : List ℕ) (x : ℕ) (from : Stands) → stands_moved t w ys x (stands_moved t w ys x from) ≡ stands_moved t w ys x from
unfolding stands_moved
stands-again t w ys x from =
    λ k.
    record {
      ff = route-again t w true true ys x from.ff k;
      fs = route-again t w true false ys x from.fs k;
      sf = route-again t w false true ys x from.sf k;
      ss = route-again t w false false ys x from.ss k;
      low = again-if w.same (moved_on (below_cursor t) w.length2 ys x) from.low (moved-again (below_cursor t) w.length2 ys x from.low) k;
      high = again-if w.same (moved_on (up_to_cursor t) w.length2 ys x) from.high (moved-again (up_to_cursor t) w.length2 ys x from.high) k;
    }

-- what events at one offset join
pub equals-few : (n : ℕ) {r m : ℕ} → m ≤ max_events → r ≤ m → n * r ≤ n * max_events
equals-few n {r} few h = mul-le-mul {m₁ = r} {m₂ = max_events} (omega arith) (omega arith)

module _ (t : ℕ) (w : EdgePair) (xs ys : List ℕ) where
  -- one event more
  shared-next : (m : Stands) (i : ℕ) → i < length xs → shared_from t w ys m (drop i xs) ≡ joined_from (length ys) (stands_moved t w ys (get_or xs i 0) m) + shared_from t w ys (stands_moved t w ys (get_or xs i 0) m) (drop (i + 1) xs)
  unfolding shared_from
  shared-next m i h =
      ap (shared_from t w ys m) (drop-cons xs i 0 h)
      ∙ ap (λ (n : ℕ). joined_from (length ys) (stands_moved t w ys (get_or xs i 0) m) + shared_from t w ys (stands_moved t w ys (get_or xs i 0) m) (drop n xs)) {x = suc i} {y = i + 1} (omega arith)

  -- and none
  shared-none : (m : Stands) (i : ℕ) → length xs ≤ i → shared_from t w ys m (drop i xs) ≡ 0
  unfolding shared_from
  shared-none m i h = ap (shared_from t w ys m) (drop_of_length-le xs h)

  -- so many events at one offset, at which the cursors stand already
  shared_same : (x : ℕ) (m : Stands) → stands_moved t w ys x m ≡ m → (n i : ℕ) → i + n ≤ length xs → ((k : ℕ) → i ≤ k → k < i + n → get_or xs k 0 ≡ x) → shared_from t w ys m (drop i xs) ≡ n * joined_from (length ys) m + shared_from t w ys m (drop (i + n) xs)
  shared_same x m there zero i h same = ap (λ (k : ℕ). shared_from t w ys m (drop k xs)) {x = i} {y = i + 0} (omega arith) ∙ omega arith
  shared_same x m there (suc n) i h same =
      let stay : stands_moved t w ys (get_or xs i 0) m ≡ m = ap (λ (y : ℕ). stands_moved t w ys y m) (same i (omega arith) (omega arith)) ∙ there in
      let on = shared_same x m there n (i + 1) (omega arith) (λ k l u. same k (omega arith) (omega arith)) in
      shared-next m i (omega arith)
      ∙ ap (λ (k : Stands). joined_from (length ys) k + shared_from t w ys k (drop (i + 1) xs)) stay
      ∙ omega (arith, on, ap (λ (k : ℕ). shared_from t w ys m (drop k xs)) {x = (i + 1) + n} {y = i + suc n} (omega arith))

  -- all events from one place on that have its offset
  shared-equals : (m : Stands) {i r : ℕ} → Equals xs i r → shared_from t w ys m (drop i xs) ≡ (r - i) * joined_from (length ys) (stands_moved t w ys (get_or xs i 0) m) + shared_from t w ys (stands_moved t w ys (get_or xs i 0) m) (drop r xs)
  shared-equals m {i} {r} run =
      let here : Stands = stands_moved t w ys (get_or xs i 0) m in
      let rest = shared_same (get_or xs i 0) here (stands-again t w ys (get_or xs i 0) m) (r - (i + 1)) (i + 1) (omega (arith, run.further, run.within)) (λ k h l. run.same k (omega arith) (omega (arith, run.further))) in
      shared-next m i (omega (arith, run.further, run.within))
      ∙ omega (arith, rest, ap (λ (k : ℕ). shared_from t w ys here (drop k xs)) {x = (i + 1) + (r - (i + 1))} {y = r} (omega (arith, run.further)), ap (λ (k : ℕ). k * joined_from (length ys) here) {x = r - i} {y = suc (r - (i + 1))} (omega (arith, run.further)))

  -- the loop's invariant: what is added up, and what is left to add by cursors moved on from where they stand, are all
  pub record Sharing (i : ℕ) (m : Stands) (total : ℕ) : Type 0 where
    pub i_in : i ≤ length xs
    pub left : total + shared_from t w ys m (drop i xs) ≡ shared t w xs ys
    pub total-few : total ≤ max_events * i

  pub none-shared : {m : Stands} → m ≡ stands_at_rest ys → Sharing 0 m 0
  unfolding shared
  none-shared e = record { i_in = omega arith; left = omega (arith, ap (λ (k : Stands). shared_from t w ys k xs) e); total-few = omega arith }

  pub run-shared : length ys ≤ max_events → {i next : ℕ} {m m' : Stands} {total r : ℕ} → Sharing i m total → Equals xs i next → m' ≡ stands_moved t w ys (get_or xs i 0) m → r ≡ joined_from (length ys) m' → r ≤ length ys → Sharing next m' (total + (next - i) * r)
  run-shared few-ys {i} {next} {m} {m'} {total} {r} so_far run moved found few =
      let told : r ≡ joined_from (length ys) (stands_moved t w ys (get_or xs i 0) m) = found ∙ ap (joined_from (length ys)) moved in
      record {
        i_in = run.within;
        left = omega (arith, so_far.left, shared-equals m run, ap (λ (k : ℕ). (next - i) * k) told, ap (λ (k : Stands). shared_from t w ys k (drop next xs)) moved);
        total-few = omega (arith, so_far.total-few, equals-few (next - i) few-ys few, run.further);
      }

  pub all-shared : {i : ℕ} {m : Stands} {total : ℕ} → Sharing i m total → length xs ≤ i → total ≡ shared t w xs ys
  all-shared {i} {m} so_far h = omega (arith, so_far.left, shared-none m i h)
