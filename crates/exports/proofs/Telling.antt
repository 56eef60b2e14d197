-- Each answer, told as numbers.
use mathlib.Core.Path.{◌≡◌, refl, subst, ◌∙◌}
use Prim.Native.Nat.{ℕ}
use Rattle.std.specs.Prelude.{Ok, Err}
use Rattle.model.specs.Refusal.{Check}
use Rattle.exports.specs.Told.{Told, ToldWith, verdict_of}

-- the verdict of a check is the check
same-verdict : (check : Check) → verdict_of check ≡ check
unfolding verdict_of
same-verdict (Ok value) = refl
same-verdict (Err r) = refl

-- the verdict that an answer has, told
pub told : {Value : Type 0} {answer check : Check} {number place : ℕ} {value r : Value} → answer ≡ check → ToldWith (verdict_of answer) value r number place → Told check number place
told {answer} {number} {place} e t = subst (λ v. Told v number place) (same-verdict answer ∙ e) t.refusal
