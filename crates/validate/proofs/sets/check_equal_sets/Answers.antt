use mathlib.Core.Path.{sym, ◌∙◌}
use Prim.Native.Nat.{◌≤◌}
use Rattle.std.proofs.Common.{◌≡◌, get_or, eqb, true}
use Rattle.model.specs.Events.{set_size}
use native.Mathlib.Omega.{arith}
use borrow.Author.Tests.{eq-eqb, ne_eqb}
use Rattle.model.proofs.Laws.Refusal.{scan_begins, scan-goes-on, scan-stops, scan-ends}
use Rattle.model.specs.Checks.{equal_sets_check}
use Rattle.model.specs.Limits.{max_set}
use Rattle.validate.proofs.SetSizes.{greatest-small}
use Rattle.validate.proofs.sets.check_equal_sets.Goals.{In-loop-s}
use Rattle.validate.proofs.sets.check_equal_sets.Goals as goal

-- the set looked at has a size
bound : (c : In-loop-s) → c.loop-s.s ≤ max_set
bound c = omega (arith, c.greatest_set-greatest.ensures, greatest-small c.args.sets.now max_set c.requires)

pub loop-s-init : goal.loop-s-init
loop-s-init c = scan_begins _ _ _ _

pub offset_bounds-sizes-s : goal.offset_bounds-sizes-s
offset_bounds-sizes-s c = omega (arith, c.greatest_set-greatest.ensures, greatest-small c.args.sets.now max_set c.requires)

pub bounds-sizes-s : goal.bounds-sizes-s
bounds-sizes-s c = omega (arith, c.greatest_set-greatest.ensures, greatest-small c.args.sets.now max_set c.requires)

pub returns-then-sizes-s : goal.returns-then-sizes-s
unfolding equal_sets_check
returns-then-sizes-s c = let size = c.count_sets-sizes.ensures in
    sym (scan-stops _ _ c.loop-s.invariant (omega (arith, c.greatest_set-greatest.ensures))
    (ne_eqb _ _ (λ e. c.if-sizes-s.true (size _ (bound (goal.at.returns-then-sizes-s c).In-loop-s) ∙ e ∙ sym (size 0 (omega arith))))))

-- the set looked at is as large as set 0
same : (c : In-loop-s) → get_or c.count_sets-sizes.result c.loop-s.s 0 ≡ get_or c.count_sets-sizes.result 0 0 → eqb (set_size c.args.sets.now c.loop-s.s) (set_size c.args.sets.now 0) ≡ true
same c e = let size = c.count_sets-sizes.ensures in
    eq-eqb _ _ (sym (size _ (bound c)) ∙ e ∙ size 0 (omega arith))

pub loop-s-preserved : goal.loop-s-preserved
loop-s-preserved c = let size = c.count_sets-sizes.ensures in
    scan-goes-on _ _ c.loop-s.invariant (omega (arith, c.greatest_set-greatest.ensures))
    (same (goal.at.loop-s-preserved c).In-loop-s c.if-sizes-s.false)

pub returns : goal.returns
unfolding equal_sets_check
returns c = sym (scan-ends _ _ c.loop-s.invariant (omega (arith, c.greatest_set-greatest.ensures)))

-- the last set is as large as set 0 too
pub returns-else-sizes-s : goal.returns-else-sizes-s
unfolding equal_sets_check
returns-else-sizes-s c =
    sym (scan-ends _ _ (scan-goes-on _ _ c.loop-s.invariant (omega (arith, c.greatest_set-greatest.ensures)) (same (goal.at.returns-else-sizes-s c).In-loop-s c.if-sizes-s.false)) (omega (arith, c.greatest_set-greatest.ensures)))
