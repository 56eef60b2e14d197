-- What passes the filter is counted.
use mathlib.Core.Bool.{Bool, true, false, cond}
use mathlib.Core.List.{List}
use mathlib.Core.Path.{◌≡◌, ◌∙◌, refl, sym}
use Prim.Native.Nat.{ℕ, ◌+◌}
use native.Mathlib.Omega.{arith}
use borrow.Author.Rules.{rules}
use lib.Dec.{eqb}
use Rattle.std.proofs.lemmas.List.Recursion.{is_count_by}
use Rattle.std.specs.List.{count_by}
use Rattle.model.specs.Counting.{one_if, count_if}
use Rattle.model.specs.Events.{set_size}
use Rattle.sweep.proofs.asked.count_on.Goals as goal

-- the library's count is that of the definitions
library_count : (test : ℕ → Bool) (xs : List ℕ) → count_if test xs ≡ count_by test xs
unfolding count_if one_if
library_count test xs = is_count_by (count_if test) test refl (λ x rest. by_test (test x) (count_if test rest)) xs
  where
    by_test : (b : Bool) (n : ℕ) → one_if b + n ≡ cond b (1 + n) n
    by_test true n = refl
    by_test false n = omega arith

pub returns : goal.returns
unfolding set_size
returns c = let counted : c.count.result ≡ count_by (λ e. eqb e c.args.edge) c.args.edges.now = search rules in
    counted ∙ sym (library_count (λ e. eqb e c.args.edge) c.args.edges.now)
