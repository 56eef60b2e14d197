-- The rows of the ends of the events' edges: marked, searched and found in the table.
use Rattle.model.specs.Refusal.{Check, accepted}
use Rattle.model.specs.declared.refusal.Fault.TheVariants.{ListsDiffer}
use mathlib.Core.List.{List, ◌++◌}
use mathlib.Core.Path.{◌≡◌, ap, ◌∙◌}
use Prim.Native.Nat.{ℕ, pred, ◌*◌, ◌<◌}
use native.Mathlib.Omega.{arith}
use lib.ListN.{length, get_or, drop}
use lib.Seq.{drop_at}
use borrow.Author.Tests.{eq-eqb, le-leb}
use Rattle.distance.specs.Answers.{table, table_check, TableAnswered}
use Rattle.model.proofs.Laws.Answer.{written_is}
use Rattle.model.proofs.Laws.Checks.{IsNetwork, network-accepted}
use Rattle.model.proofs.Laws.Refusal.{both-accepted, both-accept, unless-accepts}
use Rattle.model.specs.Checks.{network_check, room_check}
use Rattle.model.specs.Network.{Network, IsNode, edges}
use Rattle.prepare.specs.Marking.{end_of, Markable, Unmarked, Marked, Endable, Filled, EndsFilled}
use Rattle.prepare.specs.Prepared.{entry, NoEnd, TableKept}
use Rattle.prepare.proofs.Laws.Table.{table-length, table-entry, table-other}

module _ (net : Network) (es table₀ : List ℕ) (asked : Endable net es table₀) where
  pub is-network : IsNetwork net
  is-network = network-accepted net asked.accepted

  -- one side of the edges: the list of first nodes or that of second ones
  module _ (ends : List ℕ) (long : length ends ≡ edges net) (are-nodes : (i : ℕ) → i < edges net → IsNode net (get_or ends i 0)) where
    pub end-is-node : (k : ℕ) → k < length es → IsNode net (end_of ends es k)
    end-is-node k h = are-nodes (pred (get_or es k 0)) (omega (arith, asked.edge_from k h, asked.edge_to k h))

    pub markable : (wanted : List ℕ) → length wanted ≡ net.nodes → Markable ends es wanted
    markable wanted e =
        record {
          edge_from = asked.edge_from;
          edge_to = λ k h. omega (arith, asked.edge_to k h);
          end_from = λ k h. (end-is-node k h).from_one;
          end_to = λ k h. omega (arith, (end-is-node k h).to_nodes);
        }

    filled : (bound : ℕ) (wanted rest table' : List ℕ) → ((k : ℕ) → k < length es → get_or wanted (pred (end_of ends es k)) 0 ≡ 1)
        → table' ≡ table net bound wanted table₀ ++ rest → Filled net ends es bound table'
    filled bound wanted rest table' marks e k v h node =
        ap (λ (l : List ℕ). entry net l (end_of ends es k) v) e
        ∙ table-entry net bound wanted table₀ asked.room (end_of ends es k) v (end-is-node k h) node rest (λ z. omega (arith, marks k h))

  table-accepts : (wanted : List ℕ) → length wanted ≡ net.nodes → table_check net wanted table₀ ≡ accepted
  unfolding table_check network_check room_check
  table-accepts wanted e =
      let both = both-accepted _ _ asked.accepted in
      both-accept both.0
      (both-accept (unless-accepts _ ListsDiffer 0 (eq-eqb _ _ e))
      (both-accept (unless-accepts _ ListsDiffer 0 (le-leb _ _ asked.room)) both.1))

  module _ {bound : ℕ} {wanted first-marked wanted' : List ℕ} {r : Check} {table' : List ℕ} (firsts : Marked net.firsts es (length es) wanted first-marked)
      (seconds : Marked net.seconds es (length es) first-marked wanted') (long : length wanted' ≡ net.nodes) (answered : TableAnswered net bound wanted' table₀ r table') where
    whole : table' ≡ table net bound wanted' table₀ ++ drop (length (table net bound wanted' table₀)) table₀
    whole = answered.after ∙ written_is (table net bound wanted' table₀) table₀ (table-accepts wanted' long)

    pub ends-filled : EndsFilled net es bound table'
    ends-filled =
        let n = is-network in
        record {
          from_first = filled net.firsts n.firsts_length n.ends.first_is bound wanted' _ table' (λ k h. seconds.keeps _ (firsts.marks k h)) whole;
          from_second = filled net.seconds n.seconds_length n.ends.second_is bound wanted' _ table' seconds.marks whole;
        }

    -- a node that is no end is not marked
    not-marked : Unmarked wanted → length wanted ≡ net.nodes → (u : ℕ) → IsNode net u → NoEnd net es u → get_or wanted' (pred u) 0 ≡ 0
    not-marked unmarked e u node none =
        let n = is-network in
        seconds.others (pred u) (λ k h same. none.no_second k h (omega (arith, same, node.from_one, (end-is-node net.seconds n.seconds_length n.ends.second_is k h).from_one)))
        ∙ firsts.others (pred u) (λ k h same. none.no_first k h (omega (arith, same, node.from_one, (end-is-node net.firsts n.firsts_length n.ends.first_is k h).from_one)))
        ∙ unmarked.none (pred u) (omega (arith, node.from_one, node.to_nodes))

    pub table_kept : Unmarked wanted → length wanted ≡ net.nodes → TableKept net es table₀ table'
    table_kept unmarked e =
        let square = table-length net bound wanted' table₀ asked.room in
        record {
          behind = record { kept = ap (drop (net.nodes * net.nodes)) whole ∙ drop_at (table net bound wanted' table₀) _ _ square ∙ ap (λ (n : ℕ). drop n table₀) square };
          other_rows = λ u v nu nv none. ap (λ (l : List ℕ). entry net l u v) whole ∙ table-other net bound wanted' table₀ asked.room u v nu nv _ (not-marked unmarked e u nu none);
        }
