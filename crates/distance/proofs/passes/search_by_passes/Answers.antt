-- `search_by_passes`: once a pass lowers nothing, the entries within the bound are the distances (proofs/Relaxing).
use native.Mathlib.Numerals.{add-one}
use native.Mathlib.Omega.{arith}
use borrow.Author.Rules.{rules}
use Rattle.distance.proofs.Relaxing.{passes-found}
use Rattle.distance.proofs.passes.search_by_passes.Goals as goal

pub returns : goal.returns
returns c = λ e. record { at = λ v. passes-found (rw add-one at c.relax_all.ensures.0) (record { from_one = omega arith; to_nodes = omega (arith, c.requires.0.in_rows) }) (c.relax_all.ensures.1 (c.if-not-relax_all.false)) _ _ (search rules) v _ (c.clip.ensures v) }
