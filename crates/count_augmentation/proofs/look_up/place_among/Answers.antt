-- Each halving leaves half of the places, and four leave none of fifteen.
use mathlib.Core.Path.{◌≡◌, ap, ◌∙◌}
use Prim.Native.Nat.{◌/◌}
use native.Mathlib.Omega.{arith}
use Rattle.count_augmentation.specs.LookUp.{place_among_of}
use Rattle.count_augmentation.proofs.Laws.Halving.{among_next, among_none}
use Rattle.count_augmentation.proofs.look_up.place_among.Goals.{After-halve-by_2, After-halve-by_4, After-halve-by_8}
use Rattle.count_augmentation.proofs.look_up.place_among.Goals as goal

-- what the places left after each halving come to
once : (c : After-halve-by_8) → place_among_of c.args.offsets.now c.args.limit c.halve-by_8.result (c.args.left / 2) ≡ place_among_of c.args.offsets.now c.args.limit c.args.low c.args.left
once c = among_next _ _ _ _ _ (omega (arith, c.if-left-eq0.false)) c.halve-by_8.ensures.0

twice : (c : After-halve-by_4) → place_among_of c.args.offsets.now c.args.limit c.halve-by_4.result (c.args.left / 4) ≡ place_among_of c.args.offsets.now c.args.limit c.args.low c.args.left
twice c =
    let once : place_among_of c.args.offsets.now c.args.limit c.halve-by_8.result (c.args.left / 2) ≡ place_among_of c.args.offsets.now c.args.limit c.args.low c.args.left = among_next _ _ _ _ _ (omega (arith, c.if-left-eq0.false)) c.halve-by_8.ensures.0 in
    ap (place_among_of c.args.offsets.now c.args.limit c.halve-by_4.result) {x = c.args.left / 4} {y = c.args.left / 2 / 2} (omega arith)
    ∙ among_next _ _ _ _ _ (omega (arith, c.if-left-eq0-2.false)) c.halve-by_4.ensures.0 ∙ once

thrice : (c : After-halve-by_2) → place_among_of c.args.offsets.now c.args.limit c.halve-by_2.result (c.args.left / 8) ≡ place_among_of c.args.offsets.now c.args.limit c.args.low c.args.left
thrice c =
    let once : place_among_of c.args.offsets.now c.args.limit c.halve-by_8.result (c.args.left / 2) ≡ place_among_of c.args.offsets.now c.args.limit c.args.low c.args.left = among_next _ _ _ _ _ (omega (arith, c.if-left-eq0.false)) c.halve-by_8.ensures.0 in
    let twice : place_among_of c.args.offsets.now c.args.limit c.halve-by_4.result (c.args.left / 4) ≡ place_among_of c.args.offsets.now c.args.limit c.args.low c.args.left = ap (place_among_of c.args.offsets.now c.args.limit c.halve-by_4.result) {x = c.args.left / 4} {y = c.args.left / 2 / 2} (omega arith)
    ∙ among_next _ _ _ _ _ (omega (arith, c.if-left-eq0-2.false)) c.halve-by_4.ensures.0 ∙ once in
    ap (place_among_of c.args.offsets.now c.args.limit c.halve-by_2.result) {x = c.args.left / 8} {y = c.args.left / 4 / 2} (omega arith)
    ∙ among_next _ _ _ _ _ (omega (arith, c.if-left-eq0-3.false)) c.halve-by_2.ensures.0 ∙ twice

pub returns-then-left-eq0 : goal.returns-then-left-eq0
returns-then-left-eq0 c = among_none _ _ _ _ c.if-left-eq0.true

pub halve-by_8-requires : goal.halve-by_8-requires
halve-by_8-requires c = (c.requires.0, omega (arith, c.if-left-eq0.false))

pub returns-then-left-eq0-2 : goal.returns-then-left-eq0-2
returns-then-left-eq0-2 c = among_none _ _ _ _ c.if-left-eq0-2.true ∙ (once (goal.at.returns-then-left-eq0-2 c).After-halve-by_8)

pub halve-by_4-requires : goal.halve-by_4-requires
halve-by_4-requires c = (c.halve-by_8.ensures.1, omega (arith, c.if-left-eq0-2.false))

pub returns-then-left-eq0-3 : goal.returns-then-left-eq0-3
returns-then-left-eq0-3 c = among_none _ _ _ _ c.if-left-eq0-3.true ∙ (twice (goal.at.returns-then-left-eq0-3 c).After-halve-by_4)

pub halve-by_2-requires : goal.halve-by_2-requires
halve-by_2-requires c = (omega (arith, c.halve-by_4.ensures.1), omega (arith, c.if-left-eq0-3.false))

pub returns-then-left-eq0-4 : goal.returns-then-left-eq0-4
returns-then-left-eq0-4 c = among_none _ _ _ _ c.if-left-eq0-4.true ∙ (thrice (goal.at.returns-then-left-eq0-4 c).After-halve-by_2)

pub halve-requires : goal.halve-requires
halve-requires c = (omega (arith, c.halve-by_2.ensures.1), omega (arith, c.if-left-eq0-4.false))

pub returns : goal.returns
returns c = among_none _ _ _ (c.args.left / 8 / 2) (omega (arith, c.requires.1))
    ∙ among_next _ _ _ _ _ (omega (arith, c.if-left-eq0-4.false)) c.halve.ensures.0 ∙ (thrice (goal.at.returns c).After-halve-by_2)
