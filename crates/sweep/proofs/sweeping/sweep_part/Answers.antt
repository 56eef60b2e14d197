-- The part that was lent comes back swept, or cleared.
use mathlib.Core.Bool.{Bool, true, false}
use mathlib.Core.Path.{◌≡◌, ◌∙◌, refl, sym, ap}
use lib.ListN.{replicate}
use Rattle.std.proofs.Common.{Some, None}
use Rattle.std.specs.Bool.{then_some}
use Rattle.model.proofs.Laws.Pieces.{part-long}
use Rattle.sweep.proofs.Laws.Marks.{part_none, part-swept}
use Rattle.sweep.specs.declared.cursor.Cursor.{Cursor}
use Rattle.sweep.proofs.sweeping.sweep_part.Goals as goal

-- the flag and the cursor of which it was made
made-some : (exists : Bool) (c d : Cursor) → Some d ≡ then_some exists c → (exists ≡ true) × (d ≡ c)
made-some true c d e = (refl, cc)
made-some false c d e = cc

made-none : (exists : Bool) (c : Cursor) → None ≡ then_some exists c → exists ≡ false
made-none true c e = cc
made-none false c e = refl

pub returns-in-Some : goal.returns-in-Some
returns-in-Some c =
    λ exists cursor made.
    let found = made-some exists cursor c.in-Some.cursor (sym c.in-Some.is ∙ made) in
    part-swept _ _ _ _ _ _ _ _ _ _ found.0 (rw found.1 at c.sweep.ensures) refl

pub returns-in-None : goal.returns-in-None
returns-in-None c =
    λ exists cursor made.
    part_none _ _ _ _ _ _ c.args.positions.now _ _ (made-none exists cursor (sym c.in-None.is ∙ made)) c.requires.room ((c.fill.ensures.after (λ y e. e)) ∙ ap (λ n. replicate n 0) (part-long c.args.from _ c.args.positions.now c.requires.room)) refl
