-- A loop that adds up: after k turns it has the sum of the first k terms, each of which is at most 4.
use mir.Val.{bool_byte}
use mathlib.Core.Bool.{Bool, true, false}
use mathlib.Core.Path.{◌≡◌, refl, ap, ap₂, ◌∙◌}
use Prim.Native.Nat.{ℕ, ◌+◌, ◌*◌, ◌≤◌, ◌<◌}
use native.Mathlib.Numerals.{add-one}
use native.Mathlib.Omega.{arith}
use Rattle.model.proofs.Laws.Codes.{decode-code}
use Rattle.model.specs.Counting.{sum_below, one_if}
use Rattle.model.specs.Distance.{Distance, exactly, decode}
use Rattle.perimeter.specs.Counts.{CountedTo, Reached}
use Rattle.perimeter.specs.Reach.{insides_at}
use Rattle.perimeter.proofs.Candidates.{at_most_one}

pub record Tallied (f : ℕ → ℕ) (n k count : ℕ) : Type 0 where
  pub to : k ≤ n
  pub is : count ≡ sum_below k f
  pub few : count ≤ 4 * k

module _ (f : ℕ → ℕ) (n : ℕ) where
  pub tally-begins : Tallied f n 0 0
  unfolding sum_below
  tally-begins = record { to = omega arith; is = refl; few = omega arith }

  pub tally-goes-on : {k count : ℕ} (r : ℕ) → Tallied f n k count → k < n → CountedTo 4 (f k) r → Tallied f n (k + 1) (count + r)
  unfolding sum_below
  tally-goes-on {k} {count} r t l c = record { to = omega arith; is = rw add-one (omega (arith, t.is, c.is)); few = omega (arith, t.few, c.few) }

  pub tally-ends : {k count : ℕ} → Tallied f n k count → n ≤ k → CountedTo (4 * n) (sum_below n f) count
  tally-ends {k} {count} t l = let e : k ≡ n = omega (arith, t.to) in
      record { is = rw e at t.is; few = omega (arith, t.few) }

-- a test as a number
pub as-number : (b : Bool) → bool_byte b ≡ one_if b
unfolding one_if
as-number true = refl
as-number false = refl

-- what is reached is the distance that the code stands for
reached-is : {d : Distance} {r : ℕ} → Reached d r → decode r ≡ d
reached-is {d} h = ap decode h.is ∙ decode-code d

-- a node counts once, if it lies at exactly the radius
pub node-counted : {d : Distance} {r n : ℕ} {b : Bool} (radius : ℕ) → Reached d r → b ≡ exactly (decode r) radius → n ≡ one_if b → CountedTo 4 (one_if (exactly d radius)) n
node-counted {b = b} radius h p q =
    record { is = q ∙ ap one_if (p ∙ ap (λ x. exactly x radius) (reached-is h)); few = omega (arith, at_most_one b q) }

-- the locations inside an edge, from the codes of its ends
pub ends-counted : {d e : Distance} {r s : ℕ} (size : ℕ) (own : Bool) (offset radius : ℕ) → Reached d r → Reached e s → insides_at (decode r) (decode s) size own offset radius ≡ insides_at d e size own offset radius
ends-counted size own offset radius h k = ap₂ (λ x y. insides_at x y size own offset radius) (reached-is h) (reached-is k)
