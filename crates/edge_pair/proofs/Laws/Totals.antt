-- Totals that are alike in 64 bits, and what is added to them one after the other.
use Rattle.std.proofs.Common.{◌≡◌, ℕ, zero, suc, ◌+◌, ◌-◌, ◌/◌, ◌%◌, ◌<◌, ◌≤◌, cond, leb, List, length, get_or, set, sym, refl, ap, ◌∙◌, div-add-mod', arith, length-set, get_or-set_other, get_or-set_same, le-leb}
use native.Mathlib.Decide.{ℕ_discrete, dec_lt, dec_le}
use borrow.Author.Tests.{lt-leb}
use Rattle.model.specs.Counting.{sum_below}
use Rattle.edge_pair.specs.Totals.{wrap, Same64, total_at, Added, Changed}

-- alike numbers
pub same_of : {a b : ℕ} → a ≡ b → Same64 a b
same_of e = record { up = 0; down = 0; alike = omega (arith, e) }

pub same_then : {a b c : ℕ} → Same64 a b → Same64 b c → Same64 a c
same_then s r = record { up = s.up + r.up; down = s.down + r.down; alike = omega (arith, s.alike, r.alike) }

pub same-both : {a b c d : ℕ} → Same64 a b → Same64 c d → Same64 (a + c) (b + d)
same-both s r = record { up = s.up + r.up; down = s.down + r.down; alike = omega (arith, s.alike, r.alike) }

pub same-less : {a b : ℕ} (c : ℕ) → Same64 (a + c) (b + c) → Same64 a b
same-less c s = record { up = s.up; down = s.down; alike = omega (arith, s.alike) }

-- what is left of a number in 64 bits
pub same_rest : {r n : ℕ} → r ≡ n % wrap → Same64 r n
same_rest {r} {n} e = record { up = n / wrap; down = 0; alike = omega (arith, e, div-add-mod' n wrap) }

-- and of a number less another of 64 bits
pub same_less : {r n less : ℕ} → less ≤ wrap → r ≡ (n + (wrap - less)) % wrap → Same64 (r + less) n
same_less {r} {n} {less} h e = record { up = (n + (wrap - less)) / wrap; down = 1; alike = omega (arith, e, div-add-mod' (n + (wrap - less)) wrap) }

-- numbers of 64 bits that are alike are equal
pub same-small : {a b : ℕ} → a < wrap → b < wrap → Same64 a b → a ≡ b
same-small {a} {b} h l s = go (dec_lt s.up s.down) (dec_lt s.down s.up)
  where
    go : Dec (s.up < s.down) → Dec (s.down < s.up) → a ≡ b
    go (yes p) q = absurd (omega (arith, s.alike))
    go (no p) (yes q) = absurd (omega (arith, s.alike))
    go (no p) (no q) = omega (arith, s.alike)

-- one entry changed
stored : (l : List ℕ) (place v n : ℕ) → place < length l → sum_below n (λ j. get_or (set l place v) j 0) + cond (leb n place) 0 (get_or l place 0) ≡ sum_below n (λ j. get_or l j 0) + cond (leb n place) 0 v
unfolding sum_below
stored l place v zero h = simp (le-leb 0 place (omega arith))
stored l place v (suc n) h = go (ℕ_discrete n place) (stored l place v n h)
  where
    go : Dec (n ≡ place) → sum_below n (λ j. get_or (set l place v) j 0) + cond (leb n place) 0 (get_or l place 0) ≡ sum_below n (λ j. get_or l j 0) + cond (leb n place) 0 v → sum_below (suc n) (λ j. get_or (set l place v) j 0) + cond (leb (suc n) place) 0 (get_or l place 0) ≡ sum_below (suc n) (λ j. get_or l j 0) + cond (leb (suc n) place) 0 v
    go (yes p) below =
        let same : get_or (set l place v) n 0 ≡ v = rw p (get_or-set_same l place v 0 h) in
        let was : get_or l n 0 ≡ get_or l place 0 = rw p refl in
        let before : sum_below n (λ j. get_or (set l place v) j 0) + 0 ≡ sum_below n (λ j. get_or l j 0) + 0 = rw (le-leb n place (omega arith)) at below in
        rw (lt-leb (suc n) place (omega arith)) (omega (arith, before, same, was))
    go (no p) below =
        let kept : get_or (set l place v) n 0 ≡ get_or l n 0 = get_or-set_other l place n v 0 p in
        rw (past (dec_lt n place)) (omega (arith, below, kept))
      where
        past : Dec (n < place) → leb (suc n) place ≡ leb n place
        past (yes l) = le-leb (suc n) place (omega arith) ∙ sym (le-leb n place (omega arith))
        past (no l) = lt-leb (suc n) place (omega arith) ∙ sym (lt-leb n place (omega arith))

reached : (place k : ℕ) (c : ℕ) → cond (leb (suc k) place) 0 c ≡ cond (leb place k) c 0
reached place k c = go (dec_le place k)
  where
    go : Dec (place ≤ k) → cond (leb (suc k) place) 0 c ≡ cond (leb place k) c 0
    go (yes p) = rw (lt-leb (suc k) place (omega arith), le-leb place k p) refl
    go (no p) = rw (le-leb (suc k) place (omega arith), lt-leb place k (omega arith)) refl

total-stored : (l : List ℕ) (place v k : ℕ) → place < length l → total_at (set l place v) k + cond (leb place k) (get_or l place 0) 0 ≡ total_at l k + cond (leb place k) v 0
unfolding total_at
total-stored l place v k h =
    omega (arith, stored l place v (suc k) h, reached place k (get_or l place 0), reached place k v)

-- with a number that is the old entry, more by one number and less by another
pub changed-at : (l : List ℕ) (place less more v raised : ℕ) → place < length l → Same64 raised (get_or l place 0 + more) → Same64 (v + less) raised → Changed place less more l (set l place v)
changed-at l place less more v raised h up down =
    record { same_length = length-set l place v; at = λ k in_List. go k (dec_le place k) }
  where
    both : Same64 (v + less) (get_or l place 0 + more)
    both = same_then down up

    go : (k : ℕ) → Dec (place ≤ k) → Same64 (total_at (set l place v) k + cond (leb place k) less 0) (total_at l k + cond (leb place k) more 0)
    go k (yes p) =
        let same : total_at (set l place v) k + get_or l place 0 ≡ total_at l k + v = rw (le-leb place k p) at (total-stored l place v k h) in
        rw (le-leb place k p)
        (record { up = both.up; down = both.down; alike = omega (arith, both.alike, same) })
    go k (no p) =
        let same : total_at (set l place v) k + 0 ≡ total_at l k + 0 = rw (lt-leb place k (omega arith)) at (total-stored l place v k h) in
        rw (lt-leb place k (omega arith)) (same_of (omega (arith, same)))

-- behind the end of the list nothing is changed
pub changed-behind : (l : List ℕ) (place less more : ℕ) → length l ≤ place → Changed place less more l l
changed-behind l place less more h =
    record { same_length = refl; at = λ k in_List. rw (lt-leb place k (omega arith)) (same_of refl) }

-- nothing added
pub added_none : (n : ℕ) (l : List ℕ) → Added n (λ k. 0) l l
added_none n l = record { same_length = refl; at = λ k h in_List. same_of (omega arith) }

-- one addition after another
pub added_then : {n : ℕ} {f g : ℕ → ℕ} {old mid new : List ℕ} → Added n f old mid → Added n g mid new → Added n (λ k. f k + g k) old new
added_then {n} {f} {g} {old} {mid} {new} a b =
    record { same_length = b.same_length ∙ a.same_length; at = λ k h in_List. go k (a.at k h in_List) (b.at k h (omega (arith, a.same_length))) }
  where
    go : (k : ℕ) → Same64 (total_at mid k) (total_at old k + f k) → Same64 (total_at new k) (total_at mid k + g k) → Same64 (total_at new k) (total_at old k + (f k + g k))
    go k s r = record { up = s.up + r.up; down = s.down + r.down; alike = omega (arith, s.alike, r.alike) }

-- the same numbers by another name
pub added-as : {n : ℕ} {f g : ℕ → ℕ} {old new : List ℕ} → ((k : ℕ) → k < n → f k ≡ g k) → Added n f old new → Added n g old new
added-as {old = old} same a =
    record { same_length = a.same_length; at = λ k h in_List. same_then (a.at k h in_List) (same_of (ap (λ (m : ℕ). total_at old k + m) (same k h))) }

-- a number added from a place on
pub changed-added : (n : ℕ) {place more : ℕ} {old new : List ℕ} → Changed place 0 more old new → Added n (λ k. cond (leb place k) more 0) old new
changed-added n {place} {more} {old} {new} c =
    record { same_length = c.same_length; at = λ k h in_List. go k (dec_le place k) (c.at k in_List) }
  where
    go : (k : ℕ) → Dec (place ≤ k) → Same64 (total_at new k + cond (leb place k) 0 0) (total_at old k + cond (leb place k) more 0) → Same64 (total_at new k) (total_at old k + cond (leb place k) more 0)
    go k (yes p) s = same_then (same_of (rw (le-leb place k p) (omega arith))) s
    go k (no p) s = same_then (same_of (rw (lt-leb place k (omega arith)) (omega arith))) s

-- the numbers of the first places have been added, and to all totals behind them the last
pub record Running (k last : ℕ) (f : ℕ → ℕ) (old new : List ℕ) : Type 0 where
  pub same_length : length new ≡ length old
  pub before : (j : ℕ) → j < k → j < length old → Same64 (total_at new j) (total_at old j + f j)
  pub behind : (j : ℕ) → k ≤ j → j < length old → Same64 (total_at new j) (total_at old j + last)

-- nothing yet, where the first numbers are 0
pub running-from : (k : ℕ) (f : ℕ → ℕ) (l : List ℕ) → ((j : ℕ) → j < k → f j ≡ 0) → Running k 0 f l l
running-from k f l none =
    record { same_length = refl; before = λ j h in_List. same_of (omega (arith, none j h)); behind = λ j h in_List. same_of (omega arith) }

-- the next number in place of the last
pub running-next : {k last next : ℕ} {f : ℕ → ℕ} {old mid new : List ℕ} → Running k last f old mid → Changed k last next mid new → next ≡ f k → Running (suc k) next f old new
running-next {k} {last} {next} {f} {old} {mid} {new} r c e =
    record {
      same_length = c.same_length ∙ r.same_length;
      before = λ j h in_List. earlier j h in_List (ℕ_discrete j k);
      behind = λ j h in_List. later j (omega arith) in_List;
    }
  where
    later : (j : ℕ) → k ≤ j → j < length old → Same64 (total_at new j) (total_at old j + next)
    later j h in_List =
        let s = r.behind j h in_List in
        let changed : Same64 (total_at new j + last) (total_at mid j + next) = rw (le-leb k j h) at (c.at j (omega (arith, r.same_length))) in
        record { up = s.up + changed.up; down = s.down + changed.down; alike = omega (arith, s.alike, changed.alike) }

    earlier : (j : ℕ) → j < suc k → j < length old → Dec (j ≡ k) → Same64 (total_at new j) (total_at old j + f j)
    earlier j h in_List (yes p) = same_then (later j (omega (arith, p)) in_List) (same_of (rw (p, e) refl))
    earlier j h in_List (no p) =
        let s = r.before j (omega arith) in_List in
        let kept : Same64 (total_at new j + 0) (total_at mid j + 0) = rw (lt-leb k j (omega arith)) at (c.at j (omega (arith, r.same_length))) in
        record { up = s.up + kept.up; down = s.down + kept.down; alike = omega (arith, s.alike, kept.alike) }

-- all numbers have been added
pub running-all : {k last : ℕ} {f : ℕ → ℕ} {old new : List ℕ} (n : ℕ) → Running k last f old new → n ≤ k → Added n f old new
running-all n r h = record { same_length = r.same_length; at = λ j l in_List. r.before j (omega arith) in_List }

-- or those from here on are all the same
pub running-rest : {k last rest : ℕ} {f : ℕ → ℕ} {old mid new : List ℕ} (n : ℕ) → Running k last f old mid → Changed k last rest mid new → ((j : ℕ) → k ≤ j → j < n → f j ≡ rest) → Added n f old new
running-rest {k} {last} {rest} {f} {old} {mid} {new} n r c all =
    record { same_length = c.same_length ∙ r.same_length; at = λ j h in_List. go j h in_List (dec_lt j k) }
  where
    go : (j : ℕ) → j < n → j < length old → Dec (j < k) → Same64 (total_at new j) (total_at old j + f j)
    go j h in_List (yes p) =
        let s = r.before j p in_List in
        let kept : Same64 (total_at new j + 0) (total_at mid j + 0) = rw (lt-leb k j p) at (c.at j (omega (arith, r.same_length))) in
        record { up = s.up + kept.up; down = s.down + kept.down; alike = omega (arith, s.alike, kept.alike) }
    go j h in_List (no p) =
        let s = r.behind j (omega arith) in_List in
        let changed : Same64 (total_at new j + last) (total_at mid j + rest) = rw (le-leb k j (omega arith)) at (c.at j (omega (arith, r.same_length))) in
        record { up = s.up + changed.up; down = s.down + changed.down; alike = omega (arith, s.alike, changed.alike, all j (omega arith) h) }
