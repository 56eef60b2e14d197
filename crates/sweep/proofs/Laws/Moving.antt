-- A cursor on the move: what one step and the end of the way make of the definition, and that a cursor which is moved the way it has
-- to go comes to stand at the number of events within its reach.
use mathlib.Core.Bool.{Bool, true, false, cond, false≢true}
use mathlib.Core.List.{List}
use mathlib.Core.Path.{◌≡◌, ◌∙◌, refl, sym, ap, ap₂, subst}
use Prim.Native.Nat.{ℕ, zero, suc, ◌+◌, ◌-◌, ◌≤◌, ◌<◌, min}
use native.Mathlib.Decide.{dec_lt}
use native.Mathlib.Omega.{arith}
use borrow.Author.Tests.{lt-ltb, le-ltb}
use lib.Dec.{ltb}
use lib.ListN.{length}
use Rattle.model.specs.Location.{Side, at_first, at_second}
use Rattle.edge_pair.specs.Offsets.{Ordered}
use Rattle.sweep.proofs.Laws.Nearest.{reached-in, first-within, nearest-second}
use Rattle.sweep.specs.Moving.{reach, gap_at, is_within_of, fallen_from, risen_from, moved_on}
use Rattle.edge_pair.specs.Edges.{side_of}
use Rattle.sweep.specs.Sweeping.{reached, standing, Passes, Movable}
use Rattle.sweep.specs.declared.cursor.Cursor.{Cursor}

passes-down : (b : Bool) (from to : ℕ) → b ≡ true → Passes (side_of b) from to → to ≤ from
unfolding side_of
passes-down true from to e h = h
passes-down false from to e h = absurd (false≢true e)

passes_up : (b : Bool) (from to : ℕ) → b ≡ false → Passes (side_of b) from to → from ≤ to
unfolding side_of
passes_up true from to e h = absurd (false≢true (sym e))
passes_up false from to e h = h

-- going down
module _ (test : ℕ → Bool) where
  fell-none : (k : ℕ) → test k ≡ true → fallen_from test (suc k) ≡ suc k
  unfolding fallen_from
  fell-none k e = rw e refl

  fell-one : (k : ℕ) → test k ≡ false → fallen_from test (suc k) ≡ fallen_from test k
  unfolding fallen_from
  fell-one k e = rw e refl

  pub falls-no-more : (k : ℕ) → 0 < k → test (k - 1) ≡ true → fallen_from test k ≡ k
  falls-no-more k h e = let up : suc (k - 1) ≡ k = omega arith in subst (λ (n : ℕ). fallen_from test n ≡ n) up (fell-none (k - 1) e)

  pub falls-one : (k : ℕ) → 0 < k → test (k - 1) ≡ false → fallen_from test k ≡ fallen_from test (k - 1)
  falls-one k h e = ap (fallen_from test) {x = k} {y = suc (k - 1)} (omega arith) ∙ fell-one (k - 1) e

  pub falls-to-none : (k : ℕ) → k ≤ 0 → fallen_from test k ≡ 0
  unfolding fallen_from
  falls-to-none zero h = refl
  falls-to-none (suc k) h = absurd (omega arith)

  -- going up, so many places being left
  stays : (left k : ℕ) → test k ≡ false → risen_from test left k ≡ k
  unfolding risen_from
  stays zero k e = refl
  stays (suc left) k e = rw e refl

  steps : (left k : ℕ) → test k ≡ true → risen_from test (suc left) k ≡ risen_from test left (suc k)
  unfolding risen_from
  steps left k e = rw e refl

  ends : (left k : ℕ) → left ≡ 0 → risen_from test left k ≡ k
  unfolding risen_from
  ends zero k e = refl
  ends (suc left) k e = absurd (omega arith)

  -- of n places
  pub rises-no-more : (n k : ℕ) → test k ≡ false → risen_from test (n - k) k ≡ k
  rises-no-more n k e = stays (n - k) k e

  pub rises-one : (n k : ℕ) → k < n → test k ≡ true → risen_from test (n - k) k ≡ risen_from test (n - (k + 1)) (k + 1)
  rises-one n k h e =
      ap (λ (l : ℕ). risen_from test l k) {x = n - k} {y = suc (n - (k + 1))} (omega arith)
      ∙ steps (n - (k + 1)) k e
      ∙ ap (risen_from test (n - (k + 1))) {x = suc k} {y = k + 1} (omega arith)

  pub rises-to-all : (n k : ℕ) → n ≤ k → risen_from test (n - k) k ≡ k
  rises-to-all n k h = ends (n - k) k (omega arith)

  -- moved again, it stays where it is
  fell-down : (k : ℕ) → fallen_from test k ≤ k
  unfolding fallen_from
  fell-down zero = omega arith
  fell-down (suc k) = go (test k) (fell-down k)
    where
      go : (b : Bool) → fallen_from test k ≤ k → cond b (suc k) (fallen_from test k) ≤ suc k
      go true h = omega arith
      go false h = omega arith

  fell-again : (k : ℕ) → fallen_from test (fallen_from test k) ≡ fallen_from test k
  unfolding fallen_from
  fell-again zero = refl
  fell-again (suc k) = go (test k) refl (fell-again k)
    where
      go : (b : Bool) → test k ≡ b → fallen_from test (fallen_from test k) ≡ fallen_from test k → fallen_from test (cond b (suc k) (fallen_from test k)) ≡ cond b (suc k) (fallen_from test k)
      go true e again = fell-none k e
      go false e again = again

  rose-up : (left k : ℕ) → (k ≤ risen_from test left k) × (risen_from test left k ≤ left + k)
  unfolding risen_from
  rose-up zero k = (omega arith, omega arith)
  rose-up (suc left) k = go (test k) (rose-up left (suc k))
    where
      go : (b : Bool) → (suc k ≤ risen_from test left (suc k)) × (risen_from test left (suc k) ≤ left + suc k) → (k ≤ cond b (risen_from test left (suc k)) k) × (cond b (risen_from test left (suc k)) k ≤ suc left + k)
      go true h = (omega (arith, h.0), omega (arith, h.1))
      go false h = (omega arith, omega arith)

  rose-again : (left k left' : ℕ) → left' + risen_from test left k ≡ left + k → risen_from test left' (risen_from test left k) ≡ risen_from test left k
  unfolding risen_from
  rose-again zero k left' e = ends left' k (omega arith)
  rose-again (suc left) k left' e = go (test k) refl (λ l. rose-again left (suc k) left' l) e
    where
      go : (b : Bool) → test k ≡ b → (left' + risen_from test left (suc k) ≡ left + suc k → risen_from test left' (risen_from test left (suc k)) ≡ risen_from test left (suc k)) → left' + cond b (risen_from test left (suc k)) k ≡ suc left + k → risen_from test left' (cond b (risen_from test left (suc k)) k) ≡ cond b (risen_from test left (suc k)) k
      go true t again e = again (omega arith)
      go false t again e = stays left' k t

  -- of n places, from any
  falls-again : (n k : ℕ) → fallen_from test (min (fallen_from test (min k n)) n) ≡ fallen_from test (min k n)
  falls-again n k =
      ap (fallen_from test) {x = min (fallen_from test (min k n)) n} {y = fallen_from test (min k n)} (omega (arith, fell-down (min k n)))
      ∙ fell-again (min k n)

  rises-again : (n k : ℕ) → risen_from test (n - risen_from test (n - k) k) (risen_from test (n - k) k) ≡ risen_from test (n - k) k
  rises-again n k = rose-again (n - k) k _ (omega (arith, (rose-up (n - k) k).0, (rose-up (n - k) k).1))

  -- where the first m places pass, and no other of n: down from no fewer, and up from no more
  module _ (n m : ℕ) (passes : (k : ℕ) → k < n → test k ≡ ltb k m) where
    pub falls-to : (k : ℕ) → m ≤ k → k ≤ n → fallen_from test k ≡ m
    unfolding fallen_from
    falls-to zero h l = omega arith
    falls-to (suc k) h l = go (dec_lt k m) (falls-to k)
      where
        go : Dec (k < m) → (m ≤ k → k ≤ n → fallen_from test k ≡ m) → cond (test k) (suc k) (fallen_from test k) ≡ m
        go (yes i) rest = rw (passes k l ∙ lt-ltb k m i) (omega arith)
        go (no i) rest = rw (passes k l ∙ le-ltb k m (omega arith)) (rest (omega arith) (omega arith))

    pub rises-to : (left k : ℕ) → k + left ≡ n → k ≤ m → m ≤ n → risen_from test left k ≡ m
    unfolding risen_from
    rises-to zero k e h l = omega arith
    rises-to (suc left) k e h l = go (dec_lt k m) (rises-to left (suc k))
      where
        go : Dec (k < m) → (suc k + left ≡ n → suc k ≤ m → m ≤ n → risen_from test left (suc k) ≡ m) → cond (test k) (risen_from test left (suc k)) k ≡ m
        go (yes i) rest = rw (passes k (omega arith) ∙ lt-ltb k m i) (rest (omega arith) i l)
        go (no i) rest = rw (passes k (omega arith) ∙ le-ltb k m (omega arith)) (omega arith)

-- the events within a reach are the nearest ones
nearest : (q : ℕ) (s : Side) (n : ℕ) (ys : List ℕ) → Ordered ys → (k : ℕ) → k < length ys → is_within_of q s n ys k ≡ ltb k (reached q s n ys)
unfolding is_within_of gap_at
nearest q at_first n ys o k h = first-within q n ys o k h
nearest q at_second n ys o k h = nearest-second q n ys o k h

by_kind : (b : Bool) {m n r : ℕ} → (b ≡ true → m ≡ r) → (b ≡ false → n ≡ r) → cond b m n ≡ r
by_kind true down up = down refl
by_kind false down up = up refl

kind-down : (b : Bool) (m n : ℕ) → b ≡ true → m ≡ cond b m n
kind-down b m n e = rw e refl

kind-up : (b : Bool) (m n : ℕ) → b ≡ false → n ≡ cond b m n
kind-up b m n e = rw e refl

again : (test : ℕ → Bool) (n k : ℕ) (b : Bool) → cond b (fallen_from test (min (cond b (fallen_from test (min k n)) (risen_from test (n - k) k)) n)) (risen_from test (n - cond b (fallen_from test (min k n)) (risen_from test (n - k) k)) (cond b (fallen_from test (min k n)) (risen_from test (n - k) k))) ≡ cond b (fallen_from test (min k n)) (risen_from test (n - k) k)
again test n k true = falls-again test n k
again test n k false = rises-again test n k

module _ (c : Cursor) (q : ℕ) (ys : List ℕ) (x : ℕ) where
  -- a falling cursor has to go down, a rising one up
  down_to : (position : ℕ) → Movable c q ys x position → c.falling ≡ true → standing c q ys x ≤ position
  down_to position m e = passes-down c.falling position _ e m.onward

  up_to : (position : ℕ) → Movable c q ys x position → c.falling ≡ false → position ≤ standing c q ys x
  up_to position m e = passes_up c.falling position _ e m.onward

  pub at_most : standing c q ys x ≤ length ys
  unfolding standing
  at_most = reached-in q _ _ ys

  -- then it comes to stand at the number of events within its reach
  pub moved-on-stands : {position : ℕ} → Movable c q ys x position → moved_on c q ys x position ≡ standing c q ys x
  unfolding moved_on standing
  moved-on-stands {position} m =
      by_kind
      c.falling
      (λ e. falls-to _ (length ys) (standing c q ys x) near (min position (length ys)) (omega (arith, down_to position m e, at_most)) (omega arith))
      (λ e. rises-to _ (length ys) (standing c q ys x) near (length ys - position) position (omega (arith, m.position_in)) (up_to position m e) at_most)
    where
      near : (k : ℕ) → k < length ys → is_within_of q (side_of c.first) (reach c x) ys k ≡ ltb k (standing c q ys x)
      near k h = nearest q (side_of c.first) (reach c x) ys m.ordered k h

  -- moved on to one offset twice, it stands where it did
  pub moved-again : (position : ℕ) → moved_on c q ys x (moved_on c q ys x position) ≡ moved_on c q ys x position
  unfolding moved_on
  moved-again position = again (is_within_of q (side_of c.first) (reach c x) ys) (length ys) position c.falling

  -- the two ways that the code goes
  pub falls-on : (position : ℕ) {metres from r : ℕ} → c.falling ≡ true → metres ≡ reach c x → from ≡ min position (length ys) → r ≡ fallen_from (is_within_of q (side_of c.first) metres ys) from → r ≡ moved_on c q ys x position
  unfolding moved_on
  falls-on position e far start told =
      told ∙ ap₂ (λ (n : ℕ) (k : ℕ). fallen_from (is_within_of q (side_of c.first) n ys) k) far start ∙ kind-down c.falling _ _ e

  pub rises-on : (position : ℕ) {metres r : ℕ} → c.falling ≡ false → metres ≡ reach c x → r ≡ risen_from (is_within_of q (side_of c.first) metres ys) (length ys - position) position → r ≡ moved_on c q ys x position
  unfolding moved_on
  rises-on position e far told =
      told ∙ ap (λ (n : ℕ). risen_from (is_within_of q (side_of c.first) n ys) (length ys - position) position) far ∙ kind-up c.falling _ _ e
