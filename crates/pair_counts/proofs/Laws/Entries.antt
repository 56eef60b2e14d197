-- What stands at an entry of a table of counts: the number of pairs that some walk no longer than the threshold joins.
use Rattle.model.specs.Refusal.{Check, accepted}
use mathlib.Core.List.{List}
use mathlib.Core.Path.{◌≡◌}
use Prim.Native.Nat.{ℕ, ◌+◌, ◌*◌, ◌<◌}
use lib.ListN.{length, get_or}
use Rattle.model.proofs.Laws.PairCount.{counts-joined}
use Rattle.model.specs.Answer.{written}
use Rattle.model.specs.Envelope.{count_of_set}
use Rattle.model.specs.Events.{Event, having, set_count}
use Rattle.model.specs.Network.{Network, EndsAreNodes}
use Rattle.model.specs.PairCount.{CountsJoined}
use Rattle.prepare.proofs.Laws.CountRows.{count-entry}
use Rattle.prepare.specs.Counts.{count_table}

module _ (net : Network) (sets : List ℕ) (es : List Event) (ts : List ℕ) where
  -- an entry of an answer list that holds the table
  pub entry_at : (old : List ℕ) (u k : ℕ) → u < set_count sets → k < length ts → get_or (written accepted (count_table net sets es ts) old) (u * length ts + k) 0 ≡ count_of_set net sets es (get_or ts k 0) u
  unfolding written
  entry_at old u k h l = count-entry net sets es ts _ u k h l

  -- is the number of pairs that some walk joins
  pub entry-joined : EndsAreNodes net → (r : Check) (old new : List ℕ) (u k : ℕ) → r ≡ accepted → new ≡ written r (count_table net sets es ts) old → u < set_count sets → k < length ts → CountsJoined net (having u sets es) (get_or ts k 0) (get_or new (u * length ts + k) 0)
  entry-joined ends r old new u k ok e h l =
      rw (e, ok, entry_at old u k h l) joined
    where
      joined : CountsJoined net (having u sets es) (get_or ts k 0) (count_of_set net sets es (get_or ts k 0) u)
      joined = unfold count_of_set in counts-joined net ends (having u sets es) (get_or ts k 0)
