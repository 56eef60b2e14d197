-- From what has been accepted to what asking for a row wants, and what is found in it.
use Rattle.model.specs.Refusal.{Check}
use Rattle.std.specs.Prelude.{Option}
use mathlib.Core.List.{List}
use mathlib.Core.Path.{◌≡◌}
use Prim.Native.Nat.{ℕ, pred, ◌≤◌}
use native.Mathlib.Omega.{arith}
use lib.ListN.{length, get_or}
use Rattle.distance.proofs.Laws.Rows.{row-found}
use Rattle.distance.specs.Answers.{RowAnswered}
use Rattle.model.proofs.Laws.Checks.{IsNetwork, network-accepts}
use Rattle.model.specs.Distance.{decode}
use Rattle.model.specs.Limits.{max_nodes}
use Rattle.model.specs.Network.{Network, IsNode}
use Rattle.between.specs.Answers.{metres_of}
use Rattle.between.specs.Metres.{MetresFound}
use Rattle.between.proofs.Distances.{metres-is, entry-small}
use Rattle.between.specs.Rows.{Asked}

-- room for the row of any network
pub can-ask : {net : Network} {source : ℕ} {row : List ℕ} → IsNetwork net → IsNode net source → max_nodes ≤ length row → Asked net source row
can-ask {net} n node room = record { accepted = network-accepts net n; source_is = node; room = omega (arith, n.nodes_to) }

-- what the metres of an entry of the row then are
pub found : {net : Network} {source bound : ℕ} {row after : List ℕ} {r : Check} {v : ℕ} {o : Option ℕ} → Asked net source row → RowAnswered net source bound row r after → IsNode net v → o ≡ metres_of (decode (get_or after (pred v) 0)) → MetresFound net source bound v o
found {v} q answered node e =
    let f = row-found answered q.accepted q.source_is q.room v node in
    record {
      bounded = metres-is _ e f.bounded;
      whole = λ wide. metres-is _ e (f.whole wide);
      small = rw e (entry-small _ _ f.small);
    }
