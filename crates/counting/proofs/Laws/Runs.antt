-- Runs as they are read, and the pairs of two runs as the kernels count them.
use Rattle.std.proofs.Common.{◌≡◌, ℕ, zero, suc, pred, ◌+◌, ◌-◌, ◌<◌, ◌≤◌, ◌&&◌, ◌||◌, eqb, leb, List, length, get_or, sym, refl, ap, ◌∙◌, subst, add-zero, arith}
use Rattle.std.proofs.Math.Logic.{∥∥₁_elim}
use Rattle.std.proofs.Props.{props}
use Rattle.model.proofs.Laws.Arrival.{count-places}
use Rattle.model.proofs.Laws.Codes.{decode-code}
use Rattle.model.proofs.Laws.Counting.{sum-below-cong}
use Rattle.model.proofs.Laws.Routes.{some-route, event-within}
use Rattle.model.specs.Distance.{Distance, difference, within, decode}
use Rattle.model.specs.Events.{event}
use Rattle.model.specs.Limits.{max_thresholds}
use Rattle.model.specs.Location.{Side, at_first, at_second, end_node}
use Rattle.model.specs.Network.{Network, edges, size}
use Rattle.model.specs.NodeDistance.{bounded_distance}
use Rattle.model.specs.PairCount.{event_distance}
use Rattle.edge_pair.proofs.Laws.Totals.{added_none, added_then, added-as}
use Rattle.edge_pair.specs.Edges.{code_between_of, distance_between}
use Rattle.edge_pair.specs.Offsets.{Laid}
use Rattle.edge_pair.specs.Totals.{Added}
use Rattle.edge_pair.specs.Within.{reached_by, is_reached, reached_pairs}
use Rattle.edge_pair.specs.declared.edges.EdgePair.{EdgePair}
use Rattle.prepare.specs.EndTable.{EndTable}
use Rattle.prepare.specs.Prepared.{entry}
use Rattle.prepare.specs.RunPairs.{edge_of, part_of, run_pairs, pairs_with, RunsReady}
use Rattle.prepare.proofs.Laws.RunPairs.{part-of-length, run_is, run-codes, with_nothing, with-next}
use Rattle.counting.specs.Runs.{run_of, taken_of, part, RunRead, ApartTo, PartsIn, TwoReady, AllRuns}
use Rattle.counting.specs.TwoEdges.{rows_of, table_edges_of}
use Rattle.counting.specs.declared.runs.Run.{Run}
use Rattle.counting.specs.declared.runs.Taken.{Taken}

-- a run that is taken with others
module _ (net : Network) (es bounds : List ℕ) (a : ℕ) {one : Taken} (is : one ≡ taken_of net es bounds a) where
  pub number-is : one.number ≡ a
  unfolding taken_of
  number-is = rw is refl

  pub taken-itself : one ≡ taken_of net es bounds one.number
  taken-itself = is ∙ ap (λ (n : ℕ). taken_of net es bounds n) (sym number-is)

  pub run-taken : one.run ≡ run_of es bounds a
  unfolding taken_of
  run-taken = rw is refl

  pub edge-taken : one.rows.edge ≡ pred (edge_of es bounds a)
  unfolding taken_of rows_of
  edge-taken = rw is refl

  pub rows-taken : one.rows ≡ rows_of net one.rows.edge
  unfolding taken_of rows_of
  rows-taken = rw is refl

-- the codes of two edges are the table's entries
codes_are : (net : Network) (table : List ℕ) (i j : ℕ) (s s' : Side) → code_between_of (table_edges_of net table i j) s s' ≡ entry net table (end_node net i s) (end_node net j s')
unfolding code_between_of table_edges_of end_node
codes_are net table i j at_first at_first = refl
codes_are net table i j at_first at_second = refl
codes_are net table i j at_second at_first = refl
codes_are net table i j at_second at_second = refl

-- of the first q runs
module _ {net : Network} {table es xs bounds ts : List ℕ} {q : ℕ} (w : RunsReady net table es xs bounds ts q) where
  pub run-laid : (k : ℕ) → k < q → Laid (size net (pred (edge_of es bounds k))) (part_of bounds k xs)
  run-laid k l =
      let run = run_is w k l in
      record { ordered = run.rising; on_edge = run.on_edge; few = run.few }

  pub run-read : (k : ℕ) → k < q → RunRead es bounds k
  run-read k l =
      record {
        in_bounds = omega (arith, w.in_bounds);
        in_edges = omega (arith, w.begins k l, w.ends_in k l, w.in_edges);
        named = (run_is w k l).edge_from;
      }

  module _ (a b : ℕ) (la : a < q) (lb : b < q) where
    abbrev i : ℕ
    i = pred (edge_of es bounds a)

    abbrev j : ℕ
    j = pred (edge_of es bounds b)

    abbrev xs-a : List ℕ
    xs-a = part_of bounds a xs

    abbrev xs-b : List ℕ
    xs-b = part_of bounds b xs

    distances-are : (s s' : Side) → distance_between (table_edges_of net table i j) s s' ≡ bounded_distance net w.bound (end_node net i s) (end_node net j s')
    unfolding distance_between
    distances-are s s' = ap decode (codes_are net table i j s s' ∙ run-codes w a b la lb s s') ∙ decode-code _

    -- an event of each
    reached-within : (t : ℕ) → t ≤ w.bound → (k l : ℕ) → k < length xs-a → l < length xs-b → is_reached t (table_edges_of net table i j) (get_or xs-a k 0) (get_or xs-b l 0) ≡ within (event_distance net (event (edge_of es bounds a) (get_or xs-a k 0)) (event (edge_of es bounds b) (get_or xs-b l 0))) t
    unfolding is_reached reached_by table_edges_of
    reached-within t low k l h m =
        ap (λ (d : Side → Side → Distance). some-route t d (size net i) (get_or xs-a k 0) (size net j) (get_or xs-b l 0) || (eqb i j && leb (difference (get_or xs-a k 0) (get_or xs-b l 0)) t)) (λ n s s'. distances-are s s' n)
        ∙ sym (event-within net w.table_is.ends (event (edge_of es bounds a) (get_or xs-a k 0)) (event (edge_of es bounds b) (get_or xs-b l 0)) ((run_is w a la).is_event k h) ((run_is w b lb).is_event l m) t w.bound low)

    -- all of them
    pub pairs-are : (k : ℕ) → k < length ts → reached_pairs (get_or ts k 0) (table_edges_of net table i j) xs-a xs-b ≡ run_pairs net es xs bounds (get_or ts k 0) a b
    unfolding reached_pairs run_pairs
    pairs-are n l = sum-below-cong (length xs-a) _ _ (λ k h. count-places _ _ xs-b (λ j m. reached-within (get_or ts n 0) (w.within_bound n l) k j h m))

-- what the loops over runs read
module _ {net : Network} {table es xs bounds near_first near-second ts ladder : List ℕ} {runs : ℕ} (all : ∥ AllRuns net table es xs bounds near_first near-second ts ladder runs ∥₁) where
  pub few_thresholds : length ts ≤ max_thresholds
  few_thresholds = ∥∥₁_elim all (hlevel props) (λ w. w.few)

  pub table_held : EndTable net table
  table_held = ∥∥₁_elim all (hlevel props) (λ w. w.ready.table_is)

  pub read : (k : ℕ) → k < runs → RunRead es bounds k
  read k l = ∥∥₁_elim all (hlevel props) (λ w. run-read w.ready k l)

  pub edge_in : (k i : ℕ) → k < runs → i ≡ pred (edge_of es bounds k) → i < edges net
  edge_in k i l e = ∥∥₁_elim all (hlevel props) (λ w. (let named = run_is w.ready k l in omega (arith, e, named.edge_from, named.edge_to)))

  -- a run as it was read: its edge, and its part of the lists
  module _ (k : ℕ) (l : k < runs) (run : Run) (is : run ≡ run_of es bounds k) where
    pub run-edge-in : run.edge < edges net
    unfolding run_of
    run-edge-in = edge_in k run.edge l (rw is refl)

    pub offsets-in : PartsIn xs run
    unfolding run_of
    offsets-in =
        ∥∥₁_elim all (hlevel props) (λ w.
        let up = w.ready.begins k l in
        let to = w.ready.ends_in k l in
        rw is (record { begins = omega arith; in_list = omega (arith, w.ready.in_offsets); few = omega (arith, w.ready.few) }))

    pub first-in : PartsIn near_first run
    unfolding run_of
    first-in =
        ∥∥₁_elim all (hlevel props) (λ w.
        let up = w.ready.begins k l in
        let to = w.ready.ends_in k l in
        rw is (record { begins = omega arith; in_list = (w.stored.at k l).in_first; few = omega (arith, w.ready.few) }))

    pub second-in : PartsIn near-second run
    unfolding run_of
    second-in =
        ∥∥₁_elim all (hlevel props) (λ w.
        let up = w.ready.begins k l in
        let to = w.ready.ends_in k l in
        rw is (record { begins = omega arith; in_list = (w.stored.at k l).in_second; few = omega (arith, w.ready.few) }))

  -- two of them at every threshold
  module _ {a b : ℕ} (la : a < runs) (lb : b < runs) {one : Taken} {other : Run} (is : one ≡ taken_of net es bounds a) (other-is : other ≡ run_of es bounds b) {g : EdgePair} (pair : g ≡ table_edges_of net table one.rows.edge other.edge) where
    pair_is : g ≡ table_edges_of net table (pred (edge_of es bounds a)) (pred (edge_of es bounds b))
    unfolding run_of
    pair_is = pair ∙ rw (edge-taken net es bounds a is, other-is) refl

    part-a : (l : List ℕ) → part one.run l ≡ part_of bounds a l
    unfolding run_of part_of
    part-a l = rw (run-taken net es bounds a is) refl

    part-b : (l : List ℕ) → part other l ≡ part_of bounds b l
    unfolding run_of part_of
    part-b l = rw other-is refl

    -- what the kernels want
    two_ready : TwoReady ts ladder g (part_of bounds a xs) (part_of bounds b xs) (part_of bounds b near_first) (part_of bounds b near-second)
    unfolding table_edges_of
    two_ready =
        ∥∥₁_elim all (hlevel props) (λ w.
        let kept = w.stored.at b lb in
        let laid = run-laid w.ready b lb in
        let long = (run_is w.ready b lb).part_length in
        rw pair_is
        (record {
          rising = w.rising;
          ladder_is = w.ladder_is;
          laid = record { first_laid = run-laid w.ready a la; second_laid = laid };
          first_length = part-of-length bounds near_first b kept.in_first ∙ sym long;
          second_length = part-of-length bounds near-second b kept.in_second ∙ sym long;
          stored = kept.stored _ laid.on_edge;
        }))

    counted : (k : ℕ) → k < length ts → reached_pairs (get_or ts k 0) g (part_of bounds a xs) (part_of bounds b xs) ≡ run_pairs net es xs bounds (get_or ts k 0) a b
    counted k h = ∥∥₁_elim all (hlevel props) (λ w. rw pair_is (pairs-are w.ready a b la lb k h))

    -- what they add
    pub two-added : {one-xs other-xs first second old new : List ℕ} → one-xs ≡ part one.run xs → other-xs ≡ part other xs → first ≡ part other near_first → second ≡ part other near-second → (TwoReady ts ladder g one-xs other-xs first second → Added (length ts) (λ k. reached_pairs (get_or ts k 0) g one-xs other-xs) old new) → Added (length ts) (λ k. run_pairs net es xs bounds (get_or ts k 0) a b) old new
    two-added {one-xs} {other-xs} {first} {second} e f p q found =
        let x = e ∙ part-a xs in
        let y = f ∙ part-b xs in
        let ready : TwoReady ts ladder g one-xs other-xs first second = rw (x, y, p ∙ part-b near_first, q ∙ part-b near-second) two_ready in
        added-as (λ k h. rw (x, y) (counted k h)) (found ready)

    -- nothing, where none is reached
    pub apart-added : (l : List ℕ) → ((t : ℕ) (xs ys : List ℕ) → reached_pairs t g xs ys ≡ 0) → Added (length ts) (λ k. run_pairs net es xs bounds (get_or ts k 0) a b) l l
    apart-added l none = added-as (λ k h. sym (none (get_or ts k 0) (part_of bounds a xs) (part_of bounds b xs)) ∙ counted k h) (added_none (length ts) l)

-- run a with those from one on up to before run b, added one after the other
pub record WithTo (net : Network) (es xs bounds ts : List ℕ) (a from b : ℕ) (old new : List ℕ) : Type 0 where
  pub low : from ≤ b
  pub added : Added (length ts) (λ k. pairs_with net es xs bounds (get_or ts k 0) from a (b - from)) old new

module _ {net : Network} {es xs bounds ts : List ℕ} {a from : ℕ} where
  pub with_none : (l : List ℕ) → WithTo net es xs bounds ts a from from l l
  with_none l =
      record { low = omega arith; added = added-as (λ k h. sym (with_nothing net es xs bounds (get_or ts k 0) from a)) (added_none (length ts) l) }

  pub with-more : {b n : ℕ} {old mid new : List ℕ} → n ≡ a → WithTo net es xs bounds ts a from b old mid → Added (length ts) (λ k. run_pairs net es xs bounds (get_or ts k 0) n b) mid new → WithTo net es xs bounds ts a from (b + 1) old new
  with-more {b} same so_far more =
      record {
        low = omega (arith, so_far.low);
        added = added-as (λ k h. rw same (sym (with-next net es xs bounds (get_or ts k 0) from a b so_far.low))) (added_then so_far.added more);
      }

-- runs that lie apart have nothing to add
module _ {net : Network} {table es xs bounds near_first near-second ts ladder : List ℕ} {runs : ℕ} (all : ∥ AllRuns net table es xs bounds near_first near-second ts ladder runs ∥₁) {a from : ℕ} (la : a < runs) {one : Taken} (is : one ≡ taken_of net es bounds a) {old new : List ℕ} where
  passed : (n b : ℕ) → WithTo net es xs bounds ts a from b old new → b + n ≤ runs → ApartTo net table es bounds one.rows.edge b (b + n) → WithTo net es xs bounds ts a from (b + n) old new
  unfolding run_of
  passed zero b so_far few off = rw add-zero so_far
  passed (suc n) b so_far few off =
      let here = apart-added all {b = b} la (omega arith) is refl refl new (off.none b (omega arith) (omega arith)) in
      subst (λ (k : ℕ). WithTo net es xs bounds ts a from k old new) (omega arith)
      (passed n (b + 1) (with-more refl so_far here) (omega arith) (record { low = omega arith; none = λ k l u. off.none k (omega arith) (omega arith) }))

  pub with-apart : {b c : ℕ} → WithTo net es xs bounds ts a from b old new → c ≤ runs → ApartTo net table es bounds one.rows.edge b c → WithTo net es xs bounds ts a from c old new
  with-apart {b} {c} so_far few off =
      let whole : b + (c - b) ≡ c = omega (arith, off.low) in
      subst (λ (k : ℕ). WithTo net es xs bounds ts a from k old new) whole
      (passed (c - b) b so_far (omega arith) (rw whole off))
