-- Three lists of numbers side by side, and what a store to each of them does to the list of records.
use mathlib.Core.List.{List, [], ◌∷◌, ◌++◌, map}
use mathlib.Core.Path.{◌≡◌, refl, sym, ap, ◌∙◌}
use Prim.Native.Nat.{ℕ, zero, suc, ◌≤◌, ◌<◌}
use native.Mathlib.Omega.{arith}
use lib.ListN.{length, take, set, get_or, length-set, length-map, get_or-map}
use lib.Seq.{take-suc-set, ext_get_or, length-take-le}
use Rattle.text.specs.Parallel.{beside, Level}

-- a part of a list, mapped
pub map-take : {A : Type 0} (f : A → ℕ) (n : ℕ) (xs : List A) → map f (take n xs) ≡ take n (map f xs)
map-take f zero xs = refl
map-take f (suc n) [] = refl
map-take f (suc n) (x ∷ xs) = ap (λ (l : List ℕ). f x ∷ l) (map-take f n xs)

module _ {A : Type 0} (mk : ℕ → ℕ → ℕ → A) where
  -- a store to each of the three lists is one to the list of records
  pub beside-set : (xs ys zs : List ℕ) (i x y z : ℕ) → beside mk (set xs i x) (set ys i y) (set zs i z) ≡ set (beside mk xs ys zs) i (mk x y z)
  unfolding beside
  beside-set [] ys zs i x y z = refl
  beside-set (a ∷ xs) [] zs i x y z = by_first_of i
    where
      by_first_of : (i : ℕ) → beside mk (set (a ∷ xs) i x) (set [] i y) (set zs i z) ≡ set (beside mk (a ∷ xs) [] zs) i (mk x y z)
      by_first_of zero = refl
      by_first_of (suc i) = refl
  beside-set (a ∷ xs) (b ∷ ys) [] i x y z = by_second_of i
    where
      by_second_of : (i : ℕ) → beside mk (set (a ∷ xs) i x) (set (b ∷ ys) i y) (set [] i z) ≡ set (beside mk (a ∷ xs) (b ∷ ys) []) i (mk x y z)
      by_second_of zero = refl
      by_second_of (suc i) = refl
  beside-set (a ∷ xs) (b ∷ ys) (c ∷ zs) zero x y z = refl
  beside-set (a ∷ xs) (b ∷ ys) (c ∷ zs) (suc i) x y z = ap (λ (l : List A). mk a b c ∷ l) (beside-set xs ys zs i x y z)

-- no list of one element or more is empty
not_none : {n : ℕ} {G : Type 0} → 0 ≡ suc n → G
not_none e = absurd (omega arith)

level-tail : {n x y z : ℕ} (xs ys zs : List ℕ) → Level (suc n) (x ∷ xs) (y ∷ ys) (z ∷ zs) → Level n xs ys zs
level-tail xs ys zs l = record { one = omega (arith, l.one); two = omega (arith, l.two); three = omega (arith, l.three) }

-- lists of one length, side by side, are as long
pub beside-length : {A : Type 0} (mk : ℕ → ℕ → ℕ → A) (n : ℕ) (xs ys zs : List ℕ) → Level n xs ys zs → length (beside mk xs ys zs) ≡ n
unfolding beside
beside-length mk n [] ys zs l = l.one
beside-length mk n (x ∷ xs) [] zs l = l.two
beside-length mk n (x ∷ xs) (y ∷ ys) [] l = l.three
beside-length mk zero (x ∷ xs) (y ∷ ys) (z ∷ zs) l = not_none (sym l.one)
beside-length mk (suc n) (x ∷ xs) (y ∷ ys) (z ∷ zs) l = ap suc (beside-length mk n xs ys zs (level-tail xs ys zs l))

-- the record at an index holds what stands there in each list
pub beside_at : {A : Type 0} (mk : ℕ → ℕ → ℕ → A) (n : ℕ) (xs ys zs : List ℕ) (d : A) → Level n xs ys zs → (i : ℕ) → i < n → get_or (beside mk xs ys zs) i d ≡ mk (get_or xs i 0) (get_or ys i 0) (get_or zs i 0)
unfolding beside
beside_at mk n [] ys zs d l i h = absurd (omega (arith, l.one))
beside_at mk n (x ∷ xs) [] zs d l i h = absurd (omega (arith, l.two))
beside_at mk n (x ∷ xs) (y ∷ ys) [] d l i h = absurd (omega (arith, l.three))
beside_at mk n (x ∷ xs) (y ∷ ys) (z ∷ zs) d l zero h = refl
beside_at mk zero (x ∷ xs) (y ∷ ys) (z ∷ zs) d l (suc i) h = not_none (sym l.one)
beside_at mk (suc n) (x ∷ xs) (y ∷ ys) (z ∷ zs) d l (suc i) h = beside_at mk n xs ys zs d (level-tail xs ys zs l) i (omega arith)

-- Each of the three lists comes out again: ws is what a part f of the records says at every index.
module _ {A : Type 0} (mk : ℕ → ℕ → ℕ → A) (n : ℕ) (xs ys zs : List ℕ) (l : Level n xs ys zs) where
  pub comes-out : (f : A → ℕ) (ws : List ℕ) → length ws ≡ n → f (mk 0 0 0) ≡ 0 → ((i : ℕ) → f (mk (get_or xs i 0) (get_or ys i 0) (get_or zs i 0)) ≡ get_or ws i 0) → map f (beside mk xs ys zs) ≡ ws
  comes-out f ws e none is =
      let long : length (map f (beside mk xs ys zs)) ≡ n = length-map (beside mk xs ys zs) f ∙ beside-length mk n xs ys zs l in
      ext_get_or 0 (map f (beside mk xs ys zs)) ws (long ∙ sym e)
      (λ i h.
      ap (get_or (map f (beside mk xs ys zs)) i) (sym none)
      ∙ get_or-map f (beside mk xs ys zs) i (mk 0 0 0)
      ∙ ap f (beside_at mk n xs ys zs (mk 0 0 0) l i (omega (arith, long)))
      ∙ is i)

  -- also of the first k records alone
  pub comes-out-to : (f : A → ℕ) (ws : List ℕ) → length ws ≡ n → f (mk 0 0 0) ≡ 0 → ((i : ℕ) → f (mk (get_or xs i 0) (get_or ys i 0) (get_or zs i 0)) ≡ get_or ws i 0) → (k : ℕ) → map f (take k (beside mk xs ys zs)) ≡ take k ws
  comes-out-to f ws e none is k = map-take f k (beside mk xs ys zs) ∙ ap (take k) (comes-out f ws e none is)

  -- one record more, stored behind the first k
  pub one_more : (k x y z : ℕ) → k < n → take (suc k) (beside mk (set xs k x) (set ys k y) (set zs k z)) ≡ take k (beside mk xs ys zs) ++ (mk x y z ∷ [])
  one_more k x y z h =
      ap (take (suc k)) (beside-set mk xs ys zs k x y z)
      ∙ take-suc-set (beside mk xs ys zs) k (mk x y z) (omega (arith, beside-length mk n xs ys zs l))

-- stores keep the lengths
pub level-set : {n : ℕ} {xs ys zs : List ℕ} (k x y z : ℕ) → Level n xs ys zs → Level n (set xs k x) (set ys k y) (set zs k z)
level-set {n} {xs} {ys} {zs} k x y z l =
    record {
      one = length-set xs k x ∙ l.one;
      two = length-set ys k y ∙ l.two;
      three = length-set zs k z ∙ l.three;
    }

-- lists that are as long as before
pub level-kept : {n : ℕ} {xs ys zs xs' ys' zs' : List ℕ} → Level n xs ys zs → length xs' ≡ length xs → length ys' ≡ length ys → length zs' ≡ length zs → Level n xs' ys' zs'
level-kept l x y z = record { one = x ∙ l.one; two = y ∙ l.two; three = z ∙ l.three }

-- parts of one length
pub level-parts : {n : ℕ} {xs ys zs : List ℕ} (count : ℕ) → Level n xs ys zs → count ≤ n → (length (take count ys) ≡ length (take count xs)) × (length (take count zs) ≡ length (take count xs))
level-parts {n} {xs} {ys} {zs} count l h =
    let x : length (take count xs) ≡ count = length-take-le count xs (omega (arith, l.one)) in
    let y : length (take count ys) ≡ count = length-take-le count ys (omega (arith, l.two)) in
    let z : length (take count zs) ≡ count = length-take-le count zs (omega (arith, l.three)) in
    (y ∙ sym x, z ∙ sym x)
