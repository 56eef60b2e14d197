-- Equal offsets share their number; the last of its kind has as many up to it as its place says.
use mathlib.Core.Path.{◌≡◌, sym, ap, ◌∙◌}
use Prim.Native.Nat.{ℕ, suc}
use native.Mathlib.Numerals.{add-one}
use native.Mathlib.Omega.{arith}
use lib.ListN.{get_or}
use Rattle.count_augmentation.specs.Storing.{at_most}
use Rattle.count_augmentation.proofs.Laws.Places.{last-equal}
use Rattle.count_augmentation.proofs.storing.next_at_most.Goals as goal

pub returns-then-next-offsets : goal.returns-then-next-offsets
returns-then-next-offsets c = λ rising told. add-one _ ∙ sym (last-equal _ rising c.args.k c.requires.0 (λ more. absurd (omega arith)))

pub returns-then-offsets-next : goal.returns-then-offsets-next
returns-then-offsets-next c = let xs = c.args.offsets.now in
    let k = c.args.k in
    λ rising told. told (omega arith) ∙ ap (at_most xs) (ap (λ (j : ℕ). get_or xs j 0) (sym (add-one k)) ∙ c.if-offsets-next.true)

pub returns : goal.returns
returns c = let xs = c.args.offsets.now in
    let k = c.args.k in
    let different : get_or xs k 0 ≡ get_or xs (suc k) 0 → ⊥ = λ e. c.if-offsets-next.false (ap (λ (j : ℕ). get_or xs j 0) (add-one k) ∙ sym e) in
    λ rising told. add-one _ ∙ sym (last-equal xs rising k c.requires.0 (λ more. omega (arith, rising.in_order k (suc k) (omega arith) more, different)))
