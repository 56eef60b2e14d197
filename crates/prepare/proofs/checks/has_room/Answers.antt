-- As many thresholds as fit: a quotient in place of a product, which might not fit.
use mathlib.Core.Path.{◌≡◌, ap, ◌∙◌}
use Prim.Native.Nat.{suc, ◌+◌}
use lib.ListN.{length}
use native.Mathlib.Numerals.{add-one}
use native.Mathlib.Omega.{arith}
use Rattle.model.specs.Events.{set_count}
use Rattle.prepare.proofs.Laws.Verdict.{quotient-test}
use Rattle.prepare.proofs.checks.has_room.Goals as goal

pub returns : goal.returns
unfolding set_count
returns c = let count : c.greatest_set.result + 1 ≡ set_count c.args.sets.now = add-one _ ∙ ap suc c.greatest_set.ensures in
    rw (← count) (quotient-test (c.greatest_set.result + 1) (length c.args.thresholds.now) c.args.room (omega arith))
