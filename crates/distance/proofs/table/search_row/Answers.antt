-- `search_row`: both ways leave the distances.
use mathlib.Core.Path.{refl}
use native.Mathlib.Numerals.{add-one}
use native.Mathlib.Omega.{arith}
use Rattle.distance.proofs.Slots.{ready-again}
use Rattle.distance.proofs.table.search_row.Goals as goal

pub search_by_passes-requires : goal.search_by_passes-requires
search_by_passes-requires c = (c.requires.rows_known, c.requires.ready.room)

pub returns-then-search_by_passes : goal.returns-then-search_by_passes
returns-then-search_by_passes c = c.search_by_passes.ensures c.if-search_by_passes.true

pub overflow_add-source : goal.overflow_add-source
overflow_add-source c = omega (arith, c.requires.rows_known.in_rows)

pub search-requires : goal.search-requires
search-requires c = rw add-one (ready-again _ _ c.requires.ready (omega (arith, c.search_by_passes.auto)) refl)

pub returns : goal.returns
returns c = rw add-one at c.search.ensures
