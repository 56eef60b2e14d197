-- Refusals: how a scanning loop meets `first_bad_from`, how joined checks decide, and what acceptance says of each.
use mathlib.Core.Bool.{Bool, true, false, ◌&&◌}
use mathlib.Core.Logic.{⊎_elim}
use mathlib.Core.Path.{◌≡◌, refl, ◌∙◌, sym}
use Prim.Native.Nat.{ℕ, zero, suc, pred, ◌+◌, ◌≤◌, ◌<◌}
use native.Mathlib.Nat.{eq-or-lt_of_le}
use native.Mathlib.Omega.{arith}
use borrow.Author.Count.{below_more}
use borrow.Author.Tests.{le-leb, leb-true}
use lib.Dec.{leb}
use Rattle.std.specs.Prelude.{Ok, Err}
use Rattle.model.specs.Refusal.{or_else, unless, first_bad, first_bad_from, is_between_of, Check, accepted, refusal}
use Rattle.model.specs.declared.refusal.Fault.TheVariants.{ListsDiffer}
use Rattle.model.specs.declared.refusal.Fault.{Fault}
use Rattle.model.specs.declared.refusal.Refusal.{Refusal}

-- a refusal is no acceptance
pub not-accepted : {x : Refusal} {G : Type 0} → ◌≡◌ {A = Check} (Err x) accepted → G
not-accepted e = cc

-- the first check accepts: the next one decides
pub or-else-next : {a : Check} (b : Check) → a ≡ accepted → or_else a b ≡ b
unfolding or_else
or-else-next b e = rw e

-- the first check refuses: it decides
pub or-else-refused : {a : Check} (b : Check) {x : Refusal} → a ≡ Err x → or_else a b ≡ Err x
unfolding or_else
or-else-refused b e = rw e

-- r is what the first check said, and it refused: r is what the two say
pub stops-here : {r a : Check} (b : Check) {x : Refusal} → r ≡ a → r ≡ Err x → r ≡ or_else a b
stops-here b e refused = refused ∙ sym (or-else-refused b (sym e ∙ refused))

-- the first check accepted: what the next one says is what the two say
pub goes_on : {r a s b : Check} → r ≡ a → r ≡ accepted → s ≡ b → s ≡ or_else a b
goes_on {r} {a} {s} {b} e accepted next = next ∙ sym (or-else-next b (sym e ∙ accepted))

-- both of two joined checks accept where the whole does
pub both-accepted : (a b : Check) → or_else a b ≡ accepted → (a ≡ accepted) × (b ≡ accepted)
unfolding or_else
both-accepted (Ok done) b e = (refl, e)
both-accepted (Err x) b e = not-accepted e

-- and back
pub both-accept : {a b : Check} → a ≡ accepted → b ≡ accepted → or_else a b ≡ accepted
both-accept {a} {b} ha hb = or-else-next b ha ∙ hb

-- a check that accepts changes nothing behind another
pub or-else-accepted : (a : Check) → or_else a accepted ≡ a
unfolding or_else
or-else-accepted (Ok done) = refl
or-else-accepted (Err x) = refl

-- three checks may be joined from either end
pub or-else-assoc : (a b c : Check) → or_else (or_else a b) c ≡ or_else a (or_else b c)
unfolding or_else
or-else-assoc (Ok done) b c = refl
or-else-assoc (Err x) b c = refl

-- a check that either accepts or refuses with 2 at 0, in front of one that refuses so
pub two-or-accepted : (b : Bool) (next : Check) → next ≡ refusal ListsDiffer 0 → or_else (unless b ListsDiffer 0) next ≡ refusal ListsDiffer 0
unfolding or_else unless
two-or-accepted true next e = e
two-or-accepted false next e = refl

-- the test holds where it is accepted
pub unless-accepted : (good : Bool) (fault : Fault) (place : ℕ) → unless good fault place ≡ accepted → good ≡ true
unfolding unless
unless-accepted true fault place e = refl
unless-accepted false fault place e = not-accepted e

pub unless-accepts : (good : Bool) (fault : Fault) (place : ℕ) → good ≡ true → unless good fault place ≡ accepted
unfolding unless
unless-accepts good fault place e = rw e

-- where the test fails, it is refused
pub unless-refuses : (good : Bool) (fault : Fault) (place : ℕ) → good ≡ false → unless good fault place ≡ refusal fault place
unfolding unless
unless-refuses good fault place e = rw e

-- both halves of a test
pub both_true : (a b : Bool) → a && b ≡ true → (a ≡ true) × (b ≡ true)
both_true true b e = (refl, e)
both_true false b e = absurd (let z : ◌≡◌ {A = ℕ} 0 1 = cc in omega arith)

pub record Between (low high n : ℕ) : Type 0 where
  pub from : low ≤ n
  pub to : n ≤ high

-- the test of a range, and its two bounds
pub between-true : (low high n : ℕ) → is_between_of low high n ≡ true → Between low high n
unfolding is_between_of
between-true low high n e =
    let h = both_true (leb low n) (leb n high) e in
    record { from = leb-true _ _ h.0; to = leb-true _ _ h.1 }

pub true-between : (low high n : ℕ) → low ≤ n → n ≤ high → is_between_of low high n ≡ true
unfolding is_between_of
true-between low high n l h = simp (le-leb _ _ l, le-leb _ _ h)

-- The scan: fault, test, start and count of places are fixed.
module _ (fault : Fault) (good : ℕ → Bool) where
  -- one place that passes is left behind
  first_good : (start n : ℕ) → good start ≡ true → first_bad_from fault good start (suc n) ≡ first_bad_from fault good (suc start) n
  unfolding first_bad_from
  first_good start n e = or-else-next _ (unless-accepts (good start) fault start e)

  -- the test holds at every place: accepted
  pub all-good : (start n : ℕ) → ((i : ℕ) → start ≤ i → i < start + n → good i ≡ true) → first_bad_from fault good start n ≡ accepted
  unfolding first_bad_from
  all-good start zero h = refl
  all-good start (suc n) h =
      first_good start n (h start (omega arith) (omega arith))
      ∙ all-good (suc start) n (λ i l u. h i (omega arith) (omega arith))

  -- a place that fails is refused
  bad-first : (start n : ℕ) → good start ≡ false → first_bad_from fault good start (suc n) ≡ refusal fault start
  unfolding first_bad_from
  bad-first start n e = or-else-refused _ (unless-refuses (good start) fault start e)

  -- the test holds up to k and fails at k: refused at k
  pub first-bad : (start n k : ℕ) → start ≤ k → k < start + n → ((i : ℕ) → start ≤ i → i < k → good i ≡ true) → good k ≡ false → first_bad_from fault good start n ≡ refusal fault k
  first-bad start zero k from to passed bad = absurd (omega arith)
  first-bad start (suc n) k from to passed bad =
      ⊎_elim (λ same. rw same (bad-first k n bad))
      (λ more.
      first_good start n (passed start (omega arith) more)
      ∙ first-bad (suc start) n k (omega arith) (omega arith) (λ i l u. passed i (omega arith) u) bad)
      (eq-or-lt_of_le from)

  -- accepted: the test holds at every place
  pub good-at : (start n : ℕ) → first_bad_from fault good start n ≡ accepted → (i : ℕ) → start ≤ i → i < start + n → good i ≡ true
  unfolding first_bad_from
  good-at start zero e i from to = absurd (omega arith)
  good-at start (suc n) e i from to =
      let both = both-accepted (unless (good start) fault start) (first_bad_from fault good (suc start) n) e in
      ⊎_elim (λ same. rw (← same) (unless-accepted (good start) fault start both.0))
      (λ more. good-at (suc start) n both.1 i (omega arith) (omega arith))
      (eq-or-lt_of_le from)

  -- the same of the indices below n
  pub good-below : (n : ℕ) → first_bad fault good n ≡ accepted → (i : ℕ) → i < n → good i ≡ true
  unfolding first_bad
  good-below n e i h = good-at 0 n e i (omega arith) (omega arith)

  pub below-good : (n : ℕ) → ((i : ℕ) → i < n → good i ≡ true) → first_bad fault good n ≡ accepted
  unfolding first_bad
  below-good n h = all-good 0 n (λ i l u. h i (omega arith))

  -- and of the indices below n that have a forerunner
  pub good-behind : (n : ℕ) → first_bad_from fault good 1 (pred n) ≡ accepted → (k : ℕ) → suc k < n → good (suc k) ≡ true
  good-behind n e k h = good-at 1 (pred n) e (suc k) (omega arith) (omega arith)

  pub behind-good : (n : ℕ) → ((k : ℕ) → suc k < n → good (suc k) ≡ true) → first_bad_from fault good 1 (pred n) ≡ accepted
  behind-good n h = all-good 1 (pred n) at
    where
      at : (i : ℕ) → 1 ≤ i → i < 1 + pred n → good i ≡ true
      at zero l u = absurd (omega arith)
      at (suc k) l u = h k (omega arith)

  -- The state of a loop that has come to place k: the test held at every place before.
  pub record Scanned (start n k : ℕ) : Type 0 where
    pub from : start ≤ k
    pub to : k ≤ start + n
    pub passed : (i : ℕ) → start ≤ i → i < k → good i ≡ true

  -- it holds where the loop begins
  pub scan_begins : (start n : ℕ) → Scanned start n start
  scan_begins start n = record { from = omega arith; to = omega arith; passed = λ i l u. absurd (omega arith) }

  -- and after a place that passes
  pub scan-goes-on : {start n k : ℕ} → Scanned start n k → k < start + n → good k ≡ true → Scanned start n (k + 1)
  scan-goes-on {start} {n} {k} s to e =
      record {
        from = omega (arith, s.from);
        to = omega arith;
        passed = λ i l u. below_more (λ (i : ℕ). start ≤ i → good i ≡ true) k (λ j u l. s.passed j l u) (λ _. e) i u l;
      }

  -- the loop stops at a place that fails
  pub scan-stops : {start n k : ℕ} → Scanned start n k → k < start + n → good k ≡ false → first_bad_from fault good start n ≡ refusal fault k
  scan-stops {start} {n} {k} s to e = first-bad start n k s.from to s.passed e

  -- or has come to the end
  pub scan-ends : {start n k : ℕ} → Scanned start n k → start + n ≤ k → first_bad_from fault good start n ≡ accepted
  scan-ends {start} {n} {k} s end = all-good start n (λ i l u. s.passed i l (omega arith))
