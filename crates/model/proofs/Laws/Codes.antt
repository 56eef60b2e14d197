-- Codes of distances, as they stand in answer lists.
use mathlib.Core.Bool.{Bool, true, false}
use mathlib.Core.Path.{◌≡◌, ◌∙◌, refl, sym, ap, ap₂}
use Prim.Native.Nat.{ℕ, zero, suc, ◌+◌, ◌≤◌, min}
use native.Mathlib.Numerals.{add-one}
use native.Mathlib.Omega.{arith}
use Rattle.model.specs.Distance.{Distance, metres, none, least, difference, code, decode}
use Rattle.model.specs.Location.{along_edge_of}

-- a code stands for the distance that it was made of, and every number is the code of what it stands for
pub decode-code : (d : Distance) → decode (code d) ≡ d
unfolding decode code
decode-code none = refl
decode-code (metres n) = refl

pub code-decode : (n : ℕ) → code (decode n) ≡ n
unfolding decode code
code-decode zero = refl
code-decode (suc n) = refl

-- a distance can be told by its code
pub code-unique : (d e : Distance) → code d ≡ code e → d ≡ e
code-unique d e p = sym (decode-code d) ∙ ap decode p ∙ decode-code e

-- the code of the lesser of two distances: the other one where one is none, else the lesser code
pub lesser-first-none : (a b : ℕ) → a ≡ 0 → b ≡ code (least (decode a) (decode b))
unfolding decode least
lesser-first-none zero b e = sym (code-decode b)
lesser-first-none (suc a) b e = absurd (omega arith)

pub lesser-second-none : (a b : ℕ) → b ≡ 0 → a ≡ code (least (decode a) (decode b))
unfolding decode least code
lesser-second-none zero zero e = refl
lesser-second-none (suc a) zero e = refl
lesser-second-none a (suc b) e = absurd (omega arith)

pub lesser-both : (a b : ℕ) → (a ≡ 0 → ⊥) → (b ≡ 0 → ⊥) → min a b ≡ code (least (decode a) (decode b))
unfolding decode least code
lesser-both zero b h k = absurd (h refl)
lesser-both (suc a) zero h k = absurd (k refl)
lesser-both (suc a) (suc b) h k = omega arith

-- it is no greater than a bound of both codes
pub least-small : (d e : Distance) (k : ℕ) → code d ≤ k → code e ≤ k → code (least d e) ≤ k
unfolding least code
least-small none e k h l = l
least-small (metres m) none k h l = h
least-small (metres m) (metres n) k h l = omega arith

pub lesser-small : (a b k : ℕ) → a ≤ k → b ≤ k → code (least (decode a) (decode b)) ≤ k
lesser-small a b k h l = least-small (decode a) (decode b) k (rw code-decode h) (rw code-decode l)

-- the lesser of two distances, on their codes
pub least-code : {r a b : ℕ} (d e : Distance) → a ≡ code d → b ≡ code e → r ≡ code (least (decode a) (decode b)) → r ≡ code (least d e)
least-code d e p q h = h ∙ ap₂ (λ x y. code (least x y)) (ap decode p ∙ decode-code _) (ap decode q ∙ decode-code _)

-- the stretch along one edge, on its code
pub along-none : (same : Bool) (x y : ℕ) → same ≡ false → 0 ≡ code (along_edge_of same x y)
unfolding along_edge_of code
along-none same x y e = rw e

pub along-metres : (same : Bool) (x y : ℕ) → same ≡ true → difference x y + 1 ≡ code (along_edge_of same x y)
unfolding along_edge_of code
along-metres same x y e = rw e (add-one _)
