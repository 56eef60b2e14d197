-- The events whose gap to an end of an edge is below a number are the nearest ones to it.
use mathlib.Core.List.{List}
use mathlib.Core.Path.{◌≡◌, ◌∙◌, sym}
use Prim.Native.Nat.{ℕ, ◌-◌, ◌≤◌, ◌<◌}
use native.Mathlib.Decide.{dec_lt}
use native.Mathlib.Omega.{arith}
use borrow.Author.Tests.{lt-ltb, le-ltb, le-leb, lt-leb, ltb-true}
use lib.Dec.{leb, ltb}
use lib.ListN.{length, get_or}
use Rattle.model.specs.Location.{Side, at_first, at_second, gap}
use Rattle.model.proofs.Laws.Counting.{count-at-most}
use Rattle.model.proofs.Laws.Cover.{first-places, last-places}
use Rattle.edge_pair.specs.Offsets.{Ordered}
use Rattle.sweep.specs.Sweeping.{reached}

-- never more than there are
pub reached-in : (q : ℕ) (s : Side) (n : ℕ) (ys : List ℕ) → reached q s n ys ≤ length ys
unfolding reached
reached-in q s n ys = count-at-most _ ys

-- seen from the first end, the first places
pub first-within : (q n : ℕ) (ys : List ℕ) → Ordered ys → (k : ℕ) → k < length ys → ltb (get_or ys k 0) n ≡ ltb k (reached q at_first n ys)
unfolding gap reached
first-within q n ys o k h =
    first-places (λ y. ltb y n) ys (λ i j l m e. lt-ltb (get_or ys i 0) n (omega (arith, ltb-true (get_or ys j 0) n e, o.in_order i j l m))) k h

-- seen from the second end, the last places
pub last_within : (q n : ℕ) (ys : List ℕ) → Ordered ys → (k : ℕ) → k < length ys → ltb (q - get_or ys k 0) n ≡ leb (length ys - reached q at_second n ys) k
unfolding gap reached
last_within q n ys o k h =
    last-places (λ y. ltb (q - y) n) ys (λ i j l m e. lt-ltb (q - get_or ys j 0) n (omega (arith, ltb-true (q - get_or ys i 0) n e, o.in_order i j l m))) k h

-- the event at place k from the second end
pub nearest-second : (q n : ℕ) (ys : List ℕ) → Ordered ys → (k : ℕ) → k < length ys → ltb (q - get_or ys (length ys - 1 - k) 0) n ≡ ltb k (reached q at_second n ys)
nearest-second q n ys o k h =
    last_within q n ys o (length ys - 1 - k) (omega arith) ∙ turned (length ys) (reached q at_second n ys) (reached-in q at_second n ys) h
  where
    turned : (m c : ℕ) → c ≤ m → k < m → leb (m - c) (m - 1 - k) ≡ ltb k c
    turned m c l h = go (dec_lt k c)
      where
        go : Dec (k < c) → leb (m - c) (m - 1 - k) ≡ ltb k c
        go (yes i) = le-leb (m - c) (m - 1 - k) (omega arith) ∙ sym (lt-ltb k c i)
        go (no i) = lt-leb (m - c) (m - 1 - k) (omega arith) ∙ sym (le-ltb k c (omega arith))
