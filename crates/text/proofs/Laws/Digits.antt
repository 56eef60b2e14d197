-- Laws of the digits of a number: how many there are, and how they are counted and filled in from the last one on.
use mathlib.Core.Bool.{Bool, true, false}
use mathlib.Core.List.{List, [], ◌∷◌, ◌++◌, append_assoc, append-nil}
use mathlib.Core.Path.{◌≡◌, refl, ap, ◌∙◌}
use Prim.Native.Nat.{ℕ, zero, suc, ◌+◌, ◌*◌, ◌/◌, ◌%◌, ◌^◌, ◌≤◌, ◌<◌}
use native.Mathlib.Nat.{pow-suc}
use native.Mathlib.Numerals.{add-one}
use native.Mathlib.Omega.{arith}
use borrow.Author.Tests.{lt-ltb, le-ltb, ltb-true, ltb-false}
use lib.Dec.{ltb}
use lib.ListN.{length, drop, set, length-append, length-set}
use lib.Seq.{drop-cons, drop-length, drop-set-lt, get_or-set_same}
use Rattle.text.specs.Digits.{last_digits, digits}

-- a number below 10 is one digit, any other has its last digit behind the others
pub one-digit : (more n : ℕ) → n < 10 → last_digits (suc more) n ≡ (48 + n) ∷ []
unfolding last_digits
one-digit more n h = simp (lt-ltb n 10 h)

pub more-digits : (more n : ℕ) → 10 ≤ n → last_digits (suc more) n ≡ last_digits more (n / 10) ++ ((48 + n % 10) ∷ [])
unfolding last_digits
more-digits more n h = simp (le-ltb n 10 h)

-- a number is below 10, or not
pub small-or-not : {P : Type 0} (n : ℕ) → (n < 10 → P) → (10 ≤ n → P) → P
small-or-not {P} n small great = go (ltb n 10) refl
  where
    go : (b : Bool) → ltb n 10 ≡ b → P
    go true e = small (ltb-true n 10 e)
    go false e = great (ltb-false n 10 e)

-- a digit more
pub length_more : (more n : ℕ) → 10 ≤ n → length (last_digits (suc more) n) ≡ suc (length (last_digits more (n / 10)))
length_more more n h = ap length (more-digits more n h) ∙ length-append (last_digits more (n / 10)) ((48 + n % 10) ∷ []) ∙ add-one (length (last_digits more (n / 10)))

-- what is below a power of ten, divided by ten
pub div_below : (n k : ℕ) → n < 10 ^ suc k → n / 10 < 10 ^ k
div_below n k h = let b : n < 10 ^ k * 10 = rw pow-suc at h in omega arith

-- there are no more digits than asked for
few : (more n : ℕ) → length (last_digits more n) ≤ more
unfolding last_digits
few zero n = omega arith
few (suc more) n = small-or-not n (λ h. rw (one-digit more n h) (omega arith)) (λ h. rw (length_more more n h) (omega (arith, few more (n / 10))))

pub digits-few : (n : ℕ) → length (digits n) ≤ 20
unfolding digits
digits-few n = few 20 n

-- while digits are counted: those of what is left are still to come, and as many as there can be
pub record Counting (value left count : ℕ) : Type 0 where
  pub spare : ℕ
  pub so_far : count + spare ≡ 20
  pub below : left < 10 ^ suc spare
  pub total : suc (length (digits value)) ≡ count + length (last_digits (suc spare) left)

pub count-start : (value : ℕ) → value < 100000000000000000000 → Counting value value 1
unfolding digits
count-start value h = record { spare = 19; so_far = refl; below = h; total = omega arith }

pub count-more : (value left count : ℕ) → Counting value left count → 10 ≤ left → Counting value (left / 10) (count + 1)
count-more value left count so h = go so.spare so.so_far so.below so.total
  where
    go : (spare : ℕ) → count + spare ≡ 20 → left < 10 ^ suc spare → suc (length (digits value)) ≡ count + length (last_digits (suc spare) left) → Counting value (left / 10) (count + 1)
    go zero e b t = absurd (omega arith)
    go (suc spare) e b t = record {
      spare = spare;
      so_far = omega arith;
      below = div_below left (suc spare) b;
      total = omega (arith, length_more (suc spare) left h);
    }

pub counted : (value left count : ℕ) → Counting value left count → left < 10 → count ≡ length (digits value)
counted value left count so h = omega (arith, ap length (one-digit so.spare left h), so.total)

-- so many last digits of a number, with zeros in front where it has fewer
unfoldable pub padded : ℕ → ℕ → List ℕ
padded zero n = []
padded (suc more) n = padded more (n / 10) ++ ((48 + n % 10) ∷ [])

padded-last : (more n : ℕ) → last_digits more n ≡ padded (length (last_digits more n)) n
unfolding last_digits padded
padded-last zero n = refl
padded-last (suc more) n = small-or-not n
    (λ h. let same : n % 10 ≡ n = omega arith in rw (one-digit more n h, same))
    (λ h. rw (length_more more n h, ← padded-last more (n / 10)) (more-digits more n h))

-- the digits in a list filled from its end down to place i, with what is left of the number
pub record Filling (value : ℕ) (out₀ out : List ℕ) (left i : ℕ) : Type 0 where
  pub same : length out ≡ length out₀
  pub inside : i ≤ length out
  pub whole : digits value ≡ padded i left ++ drop i out

pub fill_start : (value : ℕ) (out : List ℕ) → length out ≡ length (digits value) → Filling value out out value (length out)
unfolding digits
fill_start value out e = record {
  same = refl;
  inside = omega arith;
  whole = rw (drop-length out, append-nil, e) (padded-last 20 value);
}

module _ {value : ℕ} {out₀ out : List ℕ} {left i : ℕ} (so : Filling value out₀ out left i) where
  -- the digit in front of those that stand there
  pub fill_more : (j : ℕ) → i ≡ j + 1 → Filling value out₀ (set out j (48 + left % 10)) (left / 10) j
  unfolding padded
  fill_more j e =
      let inside : j < length out = omega arith in
      let next : i ≡ suc j = e ∙ add-one j in
      let d : ℕ = 48 + left % 10 in
      let kept : drop (suc j) (set out j d) ≡ drop (suc j) out = drop-set-lt (suc j) out j d (omega arith) in
      let there : drop j (set out j d) ≡ d ∷ drop (suc j) out =
      drop-cons (set out j d) j 0 (rw length-set (omega arith)) ∙ rw (get_or-set_same out j d 0, kept) in
      record {
        same = length-set out j d ∙ so.same;
        inside = rw length-set (omega arith);
        whole = so.whole ∙ rw (next, there) (append_assoc (padded j (left / 10)) (d ∷ []) (drop (suc j) out));
      }
