-- `write_row`: what the search leaves is the row, and it is copied.
use mathlib.Core.List.{List, ◌++◌}
use mathlib.Core.Path.{◌∙◌, ap}
use Prim.Native.Nat.{ℕ}
use native.Mathlib.Omega.{arith}
use lib.ListN.{drop}
use Rattle.distance.proofs.Entries.{searched-row}
use Rattle.distance.proofs.row.write_row.Goals as goal

pub returns : goal.returns
returns c = let found = c.find in record {
  answers_after = c.copy_row.ensures
      ∙ ap (λ (l : List ℕ). l ++ drop c.args.network.nodes c.args.answers.now) (searched-row found.ensures (omega (arith, c.requires.askable.room, found.auto)));
  searched = found.ensures;
}
