-- Lists cut into pieces at rising places: what adds up over ++ adds up over the pieces.
use mathlib.Core.List.{List, [], ◌++◌}
use mathlib.Core.Path.{◌≡◌, ◌∙◌, ap}
use Prim.Native.Nat.{ℕ, zero, suc, ◌+◌, ◌-◌, ◌≤◌, ◌<◌}
use native.Mathlib.Nat.{add-zero, add-suc, le_trans}
use native.Mathlib.Omega.{arith}
use lib.ListN.{length, get_or, take, drop, length-take, length-drop}
use lib.Seq.{take-add, drop-drop, get_or-take, get_or-drop}
use Rattle.model.specs.Counting.{sum_below}

-- the part of a list from place a up to before place b, as `&s[a..b]` reads
abbrev pub part : {A : Type 0} → ℕ → ℕ → List A → List A
part a b l = take (b - a) (drop a l)

-- it is as long as its places say
pub part_length : (a b : ℕ) (l : List ℕ) → b ≤ length l → length (part a b l) ≡ b - a
part_length a b l h = simp (length-take, length-drop) (omega arith)

pub part-long : (a n : ℕ) (l : List ℕ) → a + n ≤ length l → length (part a (a + n) l) ≡ n
part-long a n l h = part_length a (a + n) l h ∙ omega arith

-- and has the list's elements
pub part_at : (a b k : ℕ) (l : List ℕ) → k < b - a → get_or (part a b l) k 0 ≡ get_or l (a + k) 0
part_at a b k l h = get_or-take (b - a) (drop a l) k 0 h ∙ get_or-drop a l k 0

-- two parts that meet are one
pub part_join : {A : Type 0} (a b c : ℕ) (l : List A) → a ≤ b → b ≤ c → part a c l ≡ part a b l ++ part b c l
part_join {A} a b c l h k =
    ap (λ (n : ℕ). take n (drop a l)) {x = c - a} {y = (b - a) + (c - b)} (omega arith)
    ∙ take-add (b - a) (c - b) (drop a l)
    ∙ ap (λ (r : List A). take (b - a) (drop a l) ++ take (c - b) r) (drop-drop (b - a) a l ∙ ap (λ (n : ℕ). drop n l) {x = a + (b - a)} {y = b} (omega arith))

-- a part of no length
pub part_none : {A : Type 0} (a : ℕ) (l : List A) → part a a l ≡ []
part_none {A} a l = ap (λ (n : ℕ). take n (drop a l)) {x = a - a} {y = 0} (omega arith)

-- places that rise from number r on, n of them
pub rise : (bound : ℕ → ℕ) (r n : ℕ) → ((k : ℕ) → k < n → bound (r + k) ≤ bound (suc (r + k))) → bound r ≤ bound (r + n)
rise bound r zero up = rw add-zero (omega arith)
rise bound r (suc n) up = rw add-suc (le_trans (rise bound r n (λ k h. up k (omega arith))) (up n (omega arith)))

-- h of the part from place r to place r + n is the sum of h over its n pieces
pub pieces : {A : Type 0} (h : List A → ℕ) → h [] ≡ 0 → ((xs ys : List A) → h (xs ++ ys) ≡ h xs + h ys) → (es : List A) (bound : ℕ → ℕ) (r n : ℕ) → ((k : ℕ) → k < n → bound (r + k) ≤ bound (suc (r + k))) → h (part (bound r) (bound (r + n)) es) ≡ sum_below n (λ k. h (part (bound (r + k)) (bound (suc (r + k))) es))
unfolding sum_below
pieces h none both es bound r zero up = rw add-zero (ap h (part_none (bound r) es) ∙ none)
pieces h none both es bound r (suc n) up =
    rw add-suc
    (ap h (part_join (bound r) (bound (r + n)) (bound (suc (r + n))) es (rise bound r n (λ k l. up k (omega arith))) (up n (omega arith)))
    ∙ both (part (bound r) (bound (r + n)) es) (part (bound (r + n)) (bound (suc (r + n))) es)
    ∙ ap (λ (m : ℕ). m + h (part (bound (r + n)) (bound (suc (r + n))) es)) (pieces h none both es bound r n (λ k l. up k (omega arith))))
