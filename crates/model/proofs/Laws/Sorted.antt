-- The events laid out: a rearrangement in order, and the only one.
use mathlib.Core.Bool.{Bool, true, false, cond, ◌&&◌, ◌||◌, false≢true}
use mathlib.Core.List.{List, [], ◌∷◌}
use mathlib.Core.Path.{◌≡◌, refl, sym, ap, ◌∙◌}
use Prim.Native.Nat.{ℕ, zero, suc, ◌≤◌, ◌<◌}
use native.Mathlib.Omega.{arith}
use borrow.Author.Tests.{ltb-true, ltb-false, eqb-true, eqb-false, lt-ltb, le-ltb, eq-eqb, ne_eqb}
use lib.Dec.{ltb, eqb}
use lib.ListN.{length}
use Rattle.model.specs.Counting.{Rearranged, nothing, keep, swap, chain}
use Rattle.model.specs.Events.{Event, before, insert, sorted, InOrder, empty, one, more}
use Rattle.model.specs.PairCount.{event_at}
use Rattle.model.proofs.Laws.Lists.{rearranged-self, rearranged-length}

-- what `before` tests, and its opposite
data Lower (e f : Event) : Type 0 where
  lower-edge : e.edge < f.edge → Lower e f
  lower-offset : e.edge ≡ f.edge → e.offset < f.offset → Lower e f

data NotLower (e f : Event) : Type 0 where
  higher-edge : f.edge < e.edge → NotLower e f
  not-lower-offset : e.edge ≡ f.edge → f.offset ≤ e.offset → NotLower e f

-- a passed test read as a fact
before-true : (e f : Event) → before e f ≡ true → Lower e f
unfolding before
before-true e f t = go (ltb e.edge f.edge) refl (eqb e.edge f.edge) refl t
  where
    go : (a : Bool) → ltb e.edge f.edge ≡ a → (b : Bool) → eqb e.edge f.edge ≡ b → (a || (b && ltb e.offset f.offset)) ≡ true → Lower e f
    go true p b q u = lower-edge (ltb-true _ _ p)
    go false p true q u = lower-offset (eqb-true _ _ q) (ltb-true _ _ u)
    go false p false q u = absurd (false≢true u)

-- a failed test read as a fact
before-false : (e f : Event) → before e f ≡ false → NotLower e f
unfolding before
before-false e f t = go (ltb e.edge f.edge) refl (eqb e.edge f.edge) refl t
  where
    go : (a : Bool) → ltb e.edge f.edge ≡ a → (b : Bool) → eqb e.edge f.edge ≡ b → (a || (b && ltb e.offset f.offset)) ≡ false → NotLower e f
    go true p b q u = absurd (false≢true (sym u))
    go false p true q u = not-lower-offset (eqb-true _ _ q) (ltb-false _ _ u)
    go false p false q u =
        let h = ltb-false e.edge f.edge p in
        let n = eqb-false e.edge f.edge q in
        higher-edge (omega arith)

-- a fact as a passed test
lower-before : (e f : Event) → Lower e f → before e f ≡ true
unfolding before
lower-before e f (lower-edge l) = simp (lt-ltb _ _ l)
lower-before e f (lower-offset p l) = simp (le-ltb e.edge f.edge (omega arith), eq-eqb _ _ p, lt-ltb _ _ l)

-- a fact as a failed test
not-lower-before : (e f : Event) → NotLower e f → before e f ≡ false
unfolding before
not-lower-before e f (higher-edge l) = simp (le-ltb e.edge f.edge (omega arith), ne_eqb e.edge f.edge (λ q. omega arith))
not-lower-before e f (not-lower-offset p l) = simp (le-ltb e.edge f.edge (omega arith), eq-eqb _ _ p, le-ltb _ _ l)

-- of two events at most one comes before the other
pub before-flip : (e f : Event) → before e f ≡ true → before f e ≡ false
before-flip e f t = not-lower-before f e (go (before-true e f t))
  where
    go : Lower e f → NotLower f e
    go (lower-edge l) = higher-edge l
    go (lower-offset p l) = not-lower-offset (sym p) (omega arith)

-- two events neither of which comes before the other are the same
pub before_same : (e f : Event) → before e f ≡ false → before f e ≡ false → e ≡ f
before_same e f s t = go (before-false e f s) (before-false f e t)
  where
    same : e.edge ≡ f.edge → e.offset ≡ f.offset → e ≡ f
    same p q = λ i. record { edge = p i; offset = q i }

    go : NotLower e f → NotLower f e → e ≡ f
    go (higher-edge l) (higher-edge m) = absurd (omega arith)
    go (higher-edge l) (not-lower-offset p m) = absurd (omega arith)
    go (not-lower-offset p l) (higher-edge m) = absurd (omega arith)
    go (not-lower-offset p l) (not-lower-offset q m) = same p (omega arith)

-- y does not come after z, and z comes before x: then y comes before x
pub before-through : (x y z : Event) → before z y ≡ false → before z x ≡ true → before y x ≡ true
before-through x y z s t = lower-before y x (go (before-false z y s) (before-true z x t))
  where
    go : NotLower z y → Lower z x → Lower y x
    go (higher-edge l) (lower-edge m) = lower-edge (omega arith)
    go (higher-edge l) (lower-offset p m) = lower-edge (omega arith)
    go (not-lower-offset q l) (lower-edge m) = lower-edge (omega arith)
    go (not-lower-offset q l) (lower-offset p m) = lower-offset (omega arith) (omega arith)

-- an inserted event changes no other
insert-rearranged : (e : Event) (es : List Event) → Rearranged (e ∷ es) (insert e es)
unfolding insert
insert-rearranged e [] = rearranged-self _
insert-rearranged e (f ∷ fs) = go (before f e) (insert-rearranged e fs)
  where
    go : (b : Bool) → Rearranged (e ∷ fs) (insert e fs) → Rearranged (e ∷ f ∷ fs) (cond b (f ∷ insert e fs) (e ∷ f ∷ fs))
    go true r = chain swap (keep r)
    go false r = rearranged-self _

pub sorted-rearranged : (es : List Event) → Rearranged es (sorted es)
unfolding sorted
sorted-rearranged [] = nothing
sorted-rearranged (e ∷ es) = chain (keep (sorted-rearranged es)) (insert-rearranged e (sorted es))

-- as many as before
pub sorted-length : (es : List Event) → length (sorted es) ≡ length es
sorted-length es = sym (rearranged-length (sorted-rearranged es))

-- inserted behind an event that comes before it, among what is in order behind that event
insert-behind : (e f : Event) (fs : List Event) → before f e ≡ true → InOrder (f ∷ fs) → InOrder (insert e fs) → InOrder (f ∷ insert e fs)
unfolding insert
insert-behind e f [] t o i = more (before-flip f e t) i
insert-behind e f (g ∷ gs) t (more s o) i = go (before g e) i
  where
    go : (b : Bool) → InOrder (cond b (g ∷ insert e gs) (e ∷ g ∷ gs)) → InOrder (f ∷ cond b (g ∷ insert e gs) (e ∷ g ∷ gs))
    go true j = more s j
    go false j = more (before-flip f e t) j

-- what stands behind the first is in order too
pub in-order-rest : {e : Event} {es : List Event} → InOrder (e ∷ es) → InOrder es
in-order-rest one = empty
in-order-rest (more s o) = o

-- not before one that is not before a third: not before the third
not-before : (e f g : Event) → before f e ≡ false → before g f ≡ false → before g e ≡ false
not-before e f g p q = go (before g e) refl
  where
    go : (b : Bool) → before g e ≡ b → before g e ≡ false
    go true t = absurd (false≢true (sym p ∙ before-through e f g q t))
    go false t = t

-- of a list in order, no element comes before the first
pub first-in-order : (e : Event) (es : List Event) → InOrder (e ∷ es) → (j : ℕ) → j < length es → before (event_at es j) e ≡ false
first-in-order e [] o j h = absurd (omega arith)
first-in-order e (f ∷ es) (more s o) zero h = s
first-in-order e (f ∷ es) (more s o) (suc j) h = not-before e f (event_at es j) s (first-in-order f es o j (omega arith))

-- nor before any that stands in front of it
pub in-order-at : (es : List Event) → InOrder es → (i j : ℕ) → i < j → j < length es → before (event_at es j) (event_at es i) ≡ false
in-order-at [] o i j l h = absurd (omega arith)
in-order-at (e ∷ es) o zero zero l h = absurd (omega arith)
in-order-at (e ∷ es) o zero (suc j) l h = first-in-order e es o j (omega arith)
in-order-at (e ∷ es) o (suc i) zero l h = absurd (omega arith)
in-order-at (e ∷ []) o (suc i) (suc j) l h = absurd (omega arith)
in-order-at (e ∷ f ∷ es) (more s o) (suc i) (suc j) l h = in-order-at (f ∷ es) o i j (omega arith) (omega arith)

-- on one edge, that is a matter of offsets
pub same-edge : (e f : Event) → e.edge ≡ f.edge → before f e ≡ false → e.offset ≤ f.offset
same-edge e f p b = go (before-false f e b)
  where
    go : NotLower f e → e.offset ≤ f.offset
    go (higher-edge l) = absurd (omega arith)
    go (not-lower-offset q l) = l

-- inserting keeps the order
insert-in-order : (e : Event) (es : List Event) → InOrder es → InOrder (insert e es)
unfolding insert
insert-in-order e [] o = one
insert-in-order e (f ∷ fs) o = go (before f e) refl (insert-in-order e fs (in-order-rest o))
  where
    go : (b : Bool) → before f e ≡ b → InOrder (insert e fs) → InOrder (cond b (f ∷ insert e fs) (e ∷ f ∷ fs))
    go true t i = insert-behind e f fs t o i
    go false t i = more t o

pub sorted-in-order : (es : List Event) → InOrder (sorted es)
unfolding sorted
sorted-in-order [] = empty
sorted-in-order (e ∷ es) = insert-in-order e (sorted es) (sorted-in-order es)

-- two events put in front of a list none of whose first comes before them: in either turn the same
front-comm : (x y : Event) (zs : List Event) → insert x zs ≡ x ∷ zs → insert y zs ≡ y ∷ zs → insert x (y ∷ zs) ≡ insert y (x ∷ zs)
unfolding insert
front-comm x y zs p q = go (before y x) refl (before x y) refl
  where
    go : (a : Bool) → before y x ≡ a → (b : Bool) → before x y ≡ b → cond a (y ∷ insert x zs) (x ∷ y ∷ zs) ≡ cond b (x ∷ insert y zs) (y ∷ x ∷ zs)
    go true s true t = absurd (false≢true (sym (before-flip y x s) ∙ t))
    go true s false t = ap (λ l. y ∷ l) p
    go false s true t = ap (λ l. x ∷ l) (sym q)
    go false s false t =
        let e = before_same x y t s in
        cc

-- two events may be inserted in either turn
insert_comm : (x y : Event) (zs : List Event) → insert x (insert y zs) ≡ insert y (insert x zs)
unfolding insert
insert_comm x y [] = front-comm x y [] refl refl
insert_comm x y (z ∷ zs) = go (before z x) refl (before z y) refl (insert_comm x y zs)
  where
    go : (a : Bool) → before z x ≡ a → (b : Bool) → before z y ≡ b → insert x (insert y zs) ≡ insert y (insert x zs) → insert x (cond b (z ∷ insert y zs) (y ∷ z ∷ zs)) ≡ insert y (cond a (z ∷ insert x zs) (x ∷ z ∷ zs))
    go true s true t rest = simp (s, t, rest)
    go true s false t rest = simp (before-through x y z t s, s, t)
    go false s true t rest = simp (before-through y x z s t, s, t)
    go false s false t rest = front-comm x y (z ∷ zs) (simp s) (simp t)

-- the order of the events given does not matter
pub sorted-same : {es fs : List Event} → Rearranged es fs → sorted es ≡ sorted fs
unfolding sorted
sorted-same nothing = refl
sorted-same (keep {x = e} r) = ap (insert e) (sorted-same r)
sorted-same (swap {x = e} {y = f} {xs = es}) = insert_comm e f (sorted es)
sorted-same (chain r s) = sorted-same r ∙ sorted-same s

-- what is in order is laid out already
pub sorted-fixed : {es : List Event} → InOrder es → sorted es ≡ es
unfolding sorted insert
sorted-fixed empty = refl
sorted-fixed one = refl
sorted-fixed (more {e = e} s o) = ap (insert e) (sorted-fixed o) ∙ simp s

pub sorted-unique : (es fs : List Event) → Rearranged es fs → InOrder fs → fs ≡ sorted es
sorted-unique es fs r o = sym (sorted-same r ∙ sorted-fixed o)
