-- The envelope of some counts is their least and their greatest.
use mathlib.Core.List.{List, [], ◌∷◌, Memᴰ}
use mathlib.Core.Path.{◌≡◌, refl, subst}
use Prim.Native.Nat.{ℕ, ◌≤◌, min, max}
use native.Mathlib.Decide.{dec_le}
use native.Mathlib.Omega.{arith}
use Rattle.model.specs.Envelope.{Envelope, widen, envelope_of, Encloses, nothing, through_ends}

-- the lesser, or the greater, of a new count and an old end is one of all the counts
lesser-in : (n lower : ℕ) (ns : List ℕ) → Memᴰ lower ns → Memᴰ (min n lower) (n ∷ ns)
lesser-in n lower ns m = go (dec_le n lower)
  where
    go : Dec (n ≤ lower) → Memᴰ (min n lower) (n ∷ ns)
    go (yes h) = let e : min n lower ≡ n = omega arith in Memᴰ.head e
    go (no h) = let e : lower ≡ min n lower = omega arith in Memᴰ.tail (subst (λ k. Memᴰ k ns) e m)

greater-in : (n upper : ℕ) (ns : List ℕ) → Memᴰ upper ns → Memᴰ (max n upper) (n ∷ ns)
greater-in n upper ns m = go (dec_le upper n)
  where
    go : Dec (upper ≤ n) → Memᴰ (max n upper) (n ∷ ns)
    go (yes h) = let e : max n upper ≡ n = omega arith in Memᴰ.head e
    go (no h) = let e : upper ≡ max n upper = omega arith in Memᴰ.tail (subst (λ k. Memᴰ k ns) e m)

-- one count more
widened : (n : ℕ) {ns : List ℕ} {e : Envelope} → Encloses ns e → Encloses (n ∷ ns) (widen n e)
unfolding widen
widened n nothing = through_ends (Memᴰ.head refl) (Memᴰ.head refl) alone
  where
    alone : (k : ℕ) → Memᴰ k (n ∷ []) → (n ≤ k) × (k ≤ n)
    alone k (Memᴰ.head e) = (omega arith, omega arith)
    alone k (Memᴰ.tail m) = elim m [ ]
widened n (through_ends {ns} {lower} {upper} low high inside) =
    through_ends (lesser-in n lower ns low) (greater-in n upper ns high) within
  where
    within : (k : ℕ) → Memᴰ k (n ∷ ns) → (min n lower ≤ k) × (k ≤ max n upper)
    within k (Memᴰ.head e) = (omega arith, omega arith)
    within k (Memᴰ.tail m) = let h = inside k m in (omega (arith, h.0), omega (arith, h.1))

pub envelope-encloses : (ns : List ℕ) → Encloses ns (envelope_of ns)
unfolding envelope_of
envelope-encloses [] = nothing
envelope-encloses (n ∷ ns) = widened n (envelope-encloses ns)
