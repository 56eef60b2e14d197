-- `fill_rows`: proofs/Tables has the rows while they are filled.
use Rattle.model.specs.Network.{network_of}
use Rattle.distance.specs.Table.{RowsHold}
use Rattle.distance.proofs.Tables.{Filled}
use Rattle.distance.proofs.table.fill_rows.Given as goal

abbrev pub invariant-loop-k : goal.invariant-loop-k
invariant-loop-k l =
    Filled (network_of l.network) l.bound l.wanted l.initial.rows l.k l.at l.rows × RowsHold (network_of l.network) l.bound l.wanted l.k l.rows
