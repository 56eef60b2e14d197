-- What is read for the two ends and for the window, whose overlaps are counted once; of the ends alone at most all.
use mathlib.Core.Path.{◌≡◌, ap, ap₂, ◌∙◌}
use Prim.Native.Nat.{ℕ, suc, ◌+◌, ◌-◌, min}
use native.Mathlib.Nat.{le_trans}
use native.Mathlib.Omega.{arith}
use lib.ListN.{length}
use Rattle.model.specs.Location.{at_first, at_second}
use Rattle.edge_pair.specs.Ways.{to_end_of}
use Rattle.count_augmentation.specs.LookUp.{read_first, read_second, read_from, looked_around, looked_by_ends}
use Rattle.count_augmentation.proofs.Laws.Reach.{first-none, first_some, second_none, second-some, around-as, around-few, own-part, other-part}
use Rattle.count_augmentation.proofs.reach.count_part.Goals.{Joined-u-limit, Joined-v-limit, then-u-limit, else-u-limit, then-v-limit, else-v-limit}
use Rattle.count_augmentation.proofs.reach.count_part.Goals as goal

-- what is read for the ends: nothing where they are beyond the threshold
first : (c : Joined-u-limit) → c.if-u-limit.first ≡ read_first c.args.ys.now c.args.near_first.now (suc c.args.threshold - to_end_of c.args.edges at_first c.args.x)
first c =
    elim c.if-u-limit.branch [
      | then-u-limit w ↦ w.first-is ∙ w.count_below-first.ensures ∙ first_some _ _ _ _ (omega (arith, c.requires.0)) (omega (arith, w.if-u-limit.true))
      | else-u-limit w ↦ w.first-is ∙ first-none _ _ _ (omega (arith, c.requires.0, w.if-u-limit.false))
    ]

last : (c : Joined-v-limit) → c.if-v-limit.last ≡ read_second c.args.edges.length2 c.args.ys.now c.args.near_second.now (suc c.args.threshold - to_end_of c.args.edges at_second c.args.x)
last c =
    elim c.if-v-limit.branch [
      | then-v-limit w ↦
          w.last-is
          ∙ w.count_from-last.ensures
          ∙ second-some _ _ _ _ (c.args.threshold + 1 - c.args.v) _ (omega (arith, c.requires.1)) (omega (arith, w.if-v-limit.true)) (omega (arith, w.saturating_sub.ensures))
      | else-v-limit w ↦ w.last-is ∙ second_none _ _ _ _ (omega (arith, c.requires.1, w.if-v-limit.false))
    ]

pub returns-then-edges : goal.returns-then-edges
unfolding looked_around
returns-then-edges c = let from-window = c.count_from-from_window.ensures ∙ ap (read_from c.args.ys.now c.args.near_second.now) c.saturating_sub-then-edges.ensures in (
  around-as (length c.args.ys.now) c.covered.ensures c.saturating_sub-then-edges-2.ensures (first (goal.at.returns-then-edges c).Joined-u-limit) (last (goal.at.returns-then-edges c).Joined-v-limit) from-window c.count_below-upto.ensures ∙ own-part _ _ _ _ _ _ c.if-edges.true,
  le_trans (around-few (length c.args.ys.now) c.if-u-limit.first c.if-v-limit.last c.count_from-from_window.result c.count_below-upto.result c.covered.ensures c.saturating_sub-then-edges-2.ensures) (omega arith),
)

pub returns : goal.returns
unfolding looked_by_ends
returns c = (
  c.min.ensures ∙ ap₂ (λ (m n : ℕ). min (m + n) (length c.args.ys.now)) (first (goal.at.returns c).Joined-u-limit) (last (goal.at.returns c).Joined-v-limit) ∙ other-part _ _ _ _ _ _ c.if-edges.false,
  omega (arith, c.min.ensures),
)
