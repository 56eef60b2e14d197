-- Equal offsets share their number; the first of its kind has as many from it on as are left.
use mathlib.Core.Path.{◌≡◌, sym, ap, ◌∙◌}
use Prim.Native.Nat.{ℕ, pred, ◌-◌}
use native.Mathlib.Omega.{arith}
use lib.ListN.{get_or}
use Rattle.count_augmentation.specs.Storing.{at_least}
use Rattle.count_augmentation.proofs.Laws.Places.{first-equal}
use Rattle.count_augmentation.proofs.storing.next_at_least.Goals as goal

pub returns-then-k-eq0 : goal.returns-then-k-eq0
returns-then-k-eq0 c = λ rising told. sym (first-equal _ rising c.args.k c.requires.0 (λ more. absurd (omega arith)))

pub returns-then-offsets-k : goal.returns-then-offsets-k
returns-then-offsets-k c = let xs = c.args.offsets.now in
    let k = c.args.k in
    λ rising told. told (omega arith) ∙ ap (at_least xs) (ap (λ (j : ℕ). get_or xs j 0) {x = pred k} {y = k - 1} (omega arith) ∙ c.if-offsets-k.true)

pub returns : goal.returns
returns c = let xs = c.args.offsets.now in
    let k = c.args.k in
    let different : get_or xs (pred k) 0 ≡ get_or xs k 0 → ⊥ = λ e. c.if-offsets-k.false (ap (λ (j : ℕ). get_or xs j 0) {x = k - 1} {y = pred k} (omega arith) ∙ e) in
    λ rising told. sym (first-equal xs rising k c.requires.0 (λ more. omega (arith, rising.in_order (pred k) k (omega arith) c.requires.0, different)))
