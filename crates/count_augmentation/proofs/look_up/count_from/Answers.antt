-- The number stored with the first offset not below the limit.
use mathlib.Core.Path.{ap, ◌∙◌}
use Prim.Native.Nat.{ℕ}
use lib.ListN.{get_or}
use Rattle.count_augmentation.proofs.look_up.count_from.Goals as goal

pub returns : goal.returns
returns c = c.value_at.ensures ∙ ap (λ (k : ℕ). get_or c.args.near_second.now k 0) c.place_of.ensures
