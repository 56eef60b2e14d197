-- What laying out a set answers and leaves in the two lists.
use Rattle.model.specs.Refusal.{Check}
use Rattle.std.specs.Prelude.{List, map, ◌≡◌, ℕ}
use Rattle.model.specs.Events.{events, sorted}
use Rattle.model.specs.Checks.{layout_check}
use Rattle.model.specs.Answer.{written}

-- 01: the same events, repeats included, rising by edge and then by offset; both lists untouched on refusal
pub record LaidOut (es xs : List ℕ) (r : Check) (es' xs' : List ℕ) : Type 0 where
  pub verdict : r ≡ layout_check es xs
  pub edges_after : es' ≡ written (layout_check es xs) (map (λ e. e.edge) (sorted (events es xs))) es
  pub offsets_after : xs' ≡ written (layout_check es xs) (map (λ e. e.offset) (sorted (events es xs))) xs
