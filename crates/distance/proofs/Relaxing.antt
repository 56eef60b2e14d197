-- What relaxing edges does to the entries, and what these are once a pass lowers none.
use Rattle.model.specs.Refusal.{accepted}
use mathlib.Core.Bool.{cond}
use mathlib.Core.List.{List}
use mathlib.Core.Logic.{inl, inr}
use mathlib.Core.Path.{◌≡◌, ◌∙◌, refl, sym, ap, subst}
use Prim.Native.Nat.{ℕ, suc, pred, ◌+◌, ◌*◌, ◌-◌, ◌≤◌, ◌<◌, min}
use native.Mathlib.Decide.{ℕ_discrete, dec_le, dec_lt}
use native.Mathlib.Omega.{arith}
use borrow.Author.Tests.{eq-eqb, ne_eqb}
use lib.Dec.{eqb}
use lib.ListN.{length, get_or, set, replicate, length-set, get_or-eq_default}
use lib.Seq.{set-get_or}
use Rattle.std.proofs.lemmas.List.{get_or-replicate}
use Rattle.model.proofs.Laws.Checks.{IsNetwork, network-accepted}
use Rattle.model.proofs.Laws.Least.{least-unique}
use Rattle.model.proofs.Laws.NodeDistance.{node-distance, bounded-distance, walk_turn}
use Rattle.model.specs.Checks.{network_check}
use Rattle.model.specs.Distance.{metres, code}
use Rattle.model.specs.Limits.{max_length, max_nodes, max_edges}
use Rattle.model.specs.Network.{Network, IsNode, edges, first, second, size}
use Rattle.model.specs.NodeDistance.{node_distance_of, bounded_distance}
use Rattle.model.specs.Walk.{Walk, here, onward, Joins, forward, backward, IsLeast, attained, no_walk}
use Rattle.distance.specs.Passes.{unreached, Relaxable, Level, AllLevel, Relaxed}
use Rattle.distance.specs.Search.{Clipped, Found}
use Rattle.distance.proofs.Lists.{AfterStore, set_cases}
use Rattle.distance.specs.Table.{RowsKnown}
use Rattle.distance.proofs.Short.{LeastLength, by_code, by-walk, walk_end, short-distance}

module _ {net : Network} {source : ℕ} where
  -- nothing but the source has been reached
  pub relaxable-start : (dist : List ℕ) {long : ℕ} → length dist ≡ long → network_check net ≡ accepted → IsNode net source → net.nodes < long → dist ≡ replicate long unreached → Relaxable net source (set dist source 1)
  relaxable-start dist {long} same accepted node room reset =
      record {
        accepted = accepted;
        room = simp length-set (omega arith);
        low = λ v. low v (after v) (dec_lt v long);
        some = λ v is. some v is (after v);
        walks = λ v n e h. walks v n e h (after v) (dec_lt v long);
        from_source = at_source (after source);
      }
    where
      inside : (v : ℕ) → v < long → get_or dist v 0 ≡ unreached
      inside v h = rw reset (get_or-replicate long v unreached 0 h)

      beyond : (v : ℕ) → long ≤ v → get_or dist v 0 ≡ 0
      beyond v h = get_or-eq_default dist 0 {n = v} (omega arith)

      after : (v : ℕ) → AfterStore dist source 1 v
      after v = set_cases dist source 1 v (omega (arith, node.to_nodes))

      low : (v : ℕ) → AfterStore dist source 1 v → Dec (v < long) → get_or (set dist source 1) v 0 ≤ unreached
      low v (inl (e, q)) d = omega arith
      low v (inr (e, q)) (yes h) = omega (arith, inside v h)
      low v (inr (e, q)) (no h) = omega (arith, beyond v (omega arith))

      some : (v : ℕ) → IsNode net v → AfterStore dist source 1 v → 1 ≤ get_or (set dist source 1) v 0
      some v is (inl (e, q)) = omega arith
      some v is (inr (e, q)) = omega (arith, inside v (omega (arith, is.to_nodes)))

      walks : (v n : ℕ) → get_or (set dist source 1) v 0 ≡ suc n → suc n < unreached → AfterStore dist source 1 v → Dec (v < long) → Walk net source v n
      walks v n e h (inl (p, q)) d =
          let none : 0 ≡ n = omega arith in
          subst (Walk net source v) none (subst (λ (k : ℕ). Walk net source k 0) (sym p) here)
      walks v n e h (inr (p, q)) (yes l) = absurd (omega (arith, inside v l))
      walks v n e h (inr (p, q)) (no l) = absurd (omega (arith, beyond v (omega arith)))

      at_source : AfterStore dist source 1 source → get_or (set dist source 1) source 0 ≤ 1
      at_source (inl (e, q)) = omega arith
      at_source (inr (e, q)) = absurd (e refl)

  -- an entry falls to one more than the length of a walk
  put : {dist : List ℕ} → Relaxable net source dist → (v e : ℕ) → v < length dist → e ≤ get_or dist v 0 → 1 ≤ e → ((n : ℕ) → e ≡ suc n → suc n < unreached → Walk net source v n) → Relaxable net source (set dist v e)
  put {dist} r v e room less one walk =
      record {
        accepted = r.accepted;
        room = simp length-set r.room;
        low = λ u. low u (after u);
        some = λ u is. some u is (after u);
        walks = λ u n q h. walks u n q h (after u);
        from_source = at_source (after source);
      }
    where
      after : (u : ℕ) → AfterStore dist v e u
      after u = set_cases dist v e u room

      low : (u : ℕ) → AfterStore dist v e u → get_or (set dist v e) u 0 ≤ unreached
      low u (inl (p, q)) = omega (arith, r.low v)
      low u (inr (p, q)) = omega (arith, r.low u)

      some : (u : ℕ) → IsNode net u → AfterStore dist v e u → 1 ≤ get_or (set dist v e) u 0
      some u is (inl (p, q)) = omega arith
      some u is (inr (p, q)) = omega (arith, r.some u is)

      walks : (u n : ℕ) → get_or (set dist v e) u 0 ≡ suc n → suc n < unreached → AfterStore dist v e u → Walk net source u n
      walks u n is h (inl (p, q)) = subst (λ (k : ℕ). Walk net source k n) (sym p) (walk n (sym q ∙ is) h)
      walks u n is h (inr (p, q)) = r.walks u n (sym q ∙ is) h

      at_source : AfterStore dist v e source → get_or (set dist v e) source 0 ≤ 1
      at_source (inl (p, q)) = omega (arith, r.from_source, ap (λ (k : ℕ). get_or dist k 0) p)
      at_source (inr (p, q)) = omega (arith, r.from_source)

  -- an end of an edge is offered the entry of the other and the length
  offered : {dist : List ℕ} → Relaxable net source dist → (i u v : ℕ) → i < edges net → Joins net i u v → IsNode net u → IsNode net v → Relaxable net source (set dist v (min (get_or dist v 0) (get_or dist u 0 + size net i)))
  offered {dist} r i u v h joins from to = put r v _ (omega (arith, to.to_nodes, r.room)) (omega arith) (omega (arith, r.some u from, r.some v to)) (λ n e l. go n e l (dec_le (get_or dist v 0) (get_or dist u 0 + size net i)))
    where
      go : (n : ℕ) → min (get_or dist v 0) (get_or dist u 0 + size net i) ≡ suc n → suc n < unreached → Dec (get_or dist v 0 ≤ get_or dist u 0 + size net i) → Walk net source v n
      go n e l (yes old) = r.walks v n (omega arith) l
      go n e l (no new) =
          let before = r.walks u (pred (get_or dist u 0)) (omega (arith, r.some u from)) (omega (arith, r.some u from)) in
          let long : pred (get_or dist u 0) + size net i ≡ n = omega (arith, r.some u from) in
          subst (Walk net source v) long (onward i h before joins)

-- the node of an earlier row is offered what that row has for the source
pub by-earlier-row : {net : Network} {bound k y entry : ℕ} {wanted rows dist : List ℕ} → RowsKnown net bound wanted k rows → Relaxable net (suc k) dist → y < k → (get_or wanted y 0 ≡ 0 → ⊥) → entry ≡ cond (eqb (get_or rows (y * net.nodes + k) 0) 0) unreached (get_or rows (y * net.nodes + k) 0) → Relaxable net (suc k) (set dist (suc y) (min (get_or dist (suc y) 0) entry))
by-earlier-row {net} {bound} {k} {y} {entry} {wanted} {rows} {dist} known r h some is =
    put r (suc y) _ (omega (arith, r.room, known.in_rows)) (omega arith) (omega (arith, r.some (suc y) node, one (ℕ_discrete (get_or rows (y * net.nodes + k) 0) 0)))
    (λ n e l. go n e l (dec_le (get_or dist (suc y) 0) entry) (ℕ_discrete (get_or rows (y * net.nodes + k) 0) 0))
  where
    node : IsNode net (suc y)
    node = record { from_one = omega arith; to_nodes = omega (arith, known.in_rows) }

    row-says : get_or rows (y * net.nodes + k) 0 ≡ code (bounded_distance net bound (suc y) (suc k))
    row-says = known.hold y k h known.in_rows some

    none-there : get_or rows (y * net.nodes + k) 0 ≡ 0 → entry ≡ unreached
    none-there e = rw (eq-eqb _ _ e) at is

    there : (get_or rows (y * net.nodes + k) 0 ≡ 0 → ⊥) → entry ≡ get_or rows (y * net.nodes + k) 0
    there e = rw (ne_eqb _ _ e) at is

    one : Dec (get_or rows (y * net.nodes + k) 0 ≡ 0) → 1 ≤ entry
    one (yes e) = omega (arith, none-there e)
    one (no e) = omega (arith, there e)

    go : (n : ℕ) → min (get_or dist (suc y) 0) entry ≡ suc n → suc n < unreached → Dec (get_or dist (suc y) 0 ≤ entry) → Dec (get_or rows (y * net.nodes + k) 0 ≡ 0) → Walk net (suc k) (suc y) n
    go n e l (yes old) d = r.walks (suc y) n (omega arith) l
    go n e l (no new) (yes none) = absurd (omega (arith, none-there none))
    go n e l (no new) (no some) =
        let reads : get_or rows (y * net.nodes + k) 0 ≡ suc n = omega (arith, there some) in
        walk_turn (by_code n (bounded-distance net (network-accepted net r.accepted).ends bound (suc y) (suc k)) (sym row-says ∙ reads)).walk.0

-- what the code's indices and sums rest on
pub record EdgeIn (net : Network) (dist : List ℕ) (i : ℕ) : Type 0 where
  pub in-firsts : i < length net.firsts
  pub in-seconds : i < length net.seconds
  pub small : i < max_edges
  pub first-inside : first net i < length dist
  pub second-inside : second net i < length dist
  pub first_small : first net i ≤ max_nodes
  pub second-small : second net i ≤ max_nodes
  pub short : size net i ≤ max_length

pub edge_in : {net : Network} {source i : ℕ} {dist : List ℕ} → Relaxable net source dist → i < edges net → EdgeIn net dist i
edge_in {net} {i = i} r h =
    let n = network-accepted net r.accepted in
    record {
      in-firsts = omega (arith, n.firsts_length);
      in-seconds = omega (arith, n.seconds_length);
      small = omega (arith, n.edges-to);
      first-inside = omega (arith, (n.ends.first_is i h).to_nodes, r.room);
      second-inside = omega (arith, (n.ends.second_is i h).to_nodes, r.room);
      first_small = omega (arith, (n.ends.first_is i h).to_nodes, n.nodes_to);
      second-small = omega (arith, (n.ends.second_is i h).to_nodes, n.nodes_to);
      short = n.length_to i h;
    }

-- the first node of an edge has been offered what the second has
after_first : {net : Network} {source i : ℕ} {dist mid : List ℕ} → Relaxable net source dist → i < edges net → mid ≡ set dist (first net i) (min (get_or dist (first net i) 0) (get_or dist (second net i) 0 + size net i)) → Relaxable net source mid
after_first {net} {i = i} r h p =
    let ends = (network-accepted net r.accepted).ends in
    rw p (offered r i (second net i) (first net i) h (backward refl refl) (ends.second_is i h) (ends.first_is i h))

pub middle-low : {net : Network} {source i : ℕ} {dist mid : List ℕ} → Relaxable net source dist → i < edges net → mid ≡ set dist (first net i) (min (get_or dist (first net i) 0) (get_or dist (second net i) 0 + size net i)) → (v : ℕ) → get_or mid v 0 ≤ unreached
middle-low r h p v = (after_first r h p).low v

-- one edge has been relaxed: first its first node, then its second
pub relaxed : {net : Network} {source i : ℕ} {dist mid new : List ℕ} {first-fell second-fell : ℕ} → Relaxable net source dist → i < edges net → mid ≡ set dist (first net i) (min (get_or dist (first net i) 0) (get_or dist (second net i) 0 + size net i)) → first-fell ≡ get_or dist (first net i) 0 - min (get_or dist (first net i) 0) (get_or dist (second net i) 0 + size net i) → new ≡ set mid (second net i) (min (get_or mid (second net i) 0) (get_or mid (first net i) 0 + size net i)) → second-fell ≡ get_or mid (second net i) 0 - min (get_or mid (second net i) 0) (get_or mid (first net i) 0 + size net i) → Relaxed net source i dist (first-fell + second-fell) new
relaxed {net} {source} {i} {dist} {mid} {new} {first-fell} {second-fell} r h p fell-1 q fell-2 =
    record {
      still = rw q (offered middle i (first net i) (second net i) h (forward refl refl) (n.ends.first_is i h) (n.ends.second_is i h));
      few = omega (arith, r.low (first net i), middle.low (second net i));
      same = λ none. second-same none ∙ first-same none;
      level = λ none. record { at_first = omega arith; at_second = level-2 none (first-same none) };
    }
  where
    n : IsNetwork net
    n = network-accepted net r.accepted

    middle : Relaxable net source mid
    middle = after_first r h p

    first-same : first-fell + second-fell ≡ 0 → mid ≡ dist
    first-same none =
        let kept : min (get_or dist (first net i) 0) (get_or dist (second net i) 0 + size net i) ≡ get_or dist (first net i) 0 = omega arith in
        p ∙ ap (set dist (first net i)) kept ∙ set-get_or dist (first net i) 0

    second-same : first-fell + second-fell ≡ 0 → new ≡ mid
    second-same none =
        let kept : min (get_or mid (second net i) 0) (get_or mid (first net i) 0 + size net i) ≡ get_or mid (second net i) 0 = omega arith in
        q ∙ ap (set mid (second net i)) kept ∙ set-get_or mid (second net i) 0

    level-2 : first-fell + second-fell ≡ 0 → mid ≡ dist → get_or dist (second net i) 0 ≤ get_or dist (first net i) 0 + size net i
    level-2 none e = subst (λ (l : List ℕ). get_or l (second net i) 0 ≤ get_or l (first net i) 0 + size net i) e (omega arith)

-- what a pass keeps: the edges below an index have been relaxed, and entries fell by so much
pub record Passing (net : Network) (source i fell : ℕ) (dist : List ℕ) : Type 0 where
  pub still : Relaxable net source dist
  pub few : fell ≤ (unreached + unreached) * i
  pub level : fell ≡ 0 → (j : ℕ) → j < i → Level net dist j

pub passing-none : {net : Network} {source : ℕ} {dist : List ℕ} → Relaxable net source dist → Passing net source 0 0 dist
passing-none r = record { still = r; few = omega arith; level = λ e j h. absurd (below-zero j h) }
  where
    below-zero : (j : ℕ) → j < 0 → ⊥
    below-zero j h = omega arith

pub passing-more : {net : Network} {source i fell more : ℕ} {dist dist' : List ℕ} → Passing net source i fell dist → Relaxed net source i dist more dist' → Passing net source (i + 1) (fell + more) dist'
passing-more {net} {source} {i} {fell} {more} {dist} {dist'} p x =
    record {
      still = x.still;
      few = omega (arith, p.few, x.few);
      level = λ e j h. subst (λ (l : List ℕ). Level net l j) (sym (x.same (omega arith))) (go j h (omega arith) (omega arith) (ℕ_discrete j i));
    }
  where
    go : (j : ℕ) → j < i + 1 → fell ≡ 0 → more ≡ 0 → Dec (j ≡ i) → Level net dist j
    go j h e f (yes q) = subst (Level net dist) (sym q) (x.level f)
    go j h e f (no q) = p.level e j (omega arith)

-- the sum stays small
pub passing-few : {net : Network} {source i fell more : ℕ} {dist dist' : List ℕ} → Passing net source i fell dist → i < edges net → Relaxed net source i dist more dist' → fell + more ≤ (unreached + unreached) * max_edges
passing-few {net} p h x = omega (arith, p.few, x.few, (network-accepted net p.still.accepted).edges-to)

-- every edge has been relaxed
pub passing-all : {net : Network} {source i fell : ℕ} {dist : List ℕ} → Passing net source i fell dist → edges net ≤ i → fell ≡ 0 → AllLevel net dist
passing-all p all none j h = p.level none j (omega arith)

-- once every edge is level, an entry is one more than a least length, or there is no walk
module _ {net : Network} {source : ℕ} {dist : List ℕ} (r : Relaxable net source dist) (node : IsNode net source) (level : AllLevel net dist) where
  n : IsNetwork net
  n = network-accepted net r.accepted

  exact : {v k : ℕ} → Walk net source v k → get_or dist v 0 ≤ suc k
  exact here = omega (arith, r.from_source)
  exact (onward {v = u} {w = w} {n = k} i h before joins) = go (exact before) joins
    where
      go : get_or dist u 0 ≤ suc k → Joins net i u w → get_or dist w 0 ≤ suc (k + size net i)
      go so_far (forward p q) = omega (arith, (level i h).at_second, ap (λ (j : ℕ). get_or dist j 0) p, ap (λ (j : ℕ). get_or dist j 0) q)
      go so_far (backward p q) = omega (arith, (level i h).at_first, ap (λ (j : ℕ). get_or dist j 0) p, ap (λ (j : ℕ). get_or dist j 0) q)

  law : (v : ℕ) → IsLeast (Walk net source v) (node_distance_of net source v)
  law v = node-distance net n.ends source v

  -- a node that a walk leads to has an entry below that of a node not reached
  reached : {v k : ℕ} → Walk net source v k → (1 ≤ get_or dist v 0) × (get_or dist v 0 < unreached)
  reached {v} {k} w = go (by-walk k (law v) w)
    where
      go : (m : ℕ) × LeastLength (Walk net source v) (node_distance_of net source v) m → (1 ≤ get_or dist v 0) × (get_or dist v 0 < unreached)
      go (m, x) = (r.some v (walk_end n.ends node w), omega (arith, exact x.walk, short-distance n node v m x.is))

  module _ (bound limit : ℕ) (is : limit ≡ min bound (unreached - 2)) (v entry : ℕ) (clip : Clipped limit (get_or dist v 0) entry) where
    -- the entry is that of a walk of k metres, the least length
    by-entry : (k : ℕ) → get_or dist v 0 ≡ suc k → Walk net source v k → Found net source bound v entry
    unfolding code
    by-entry k e walk = go (dec_le k bound)
      where
        shortest : node_distance_of net source v ≡ metres k
        shortest = least-unique (law v) (attained walk (λ m w. omega (arith, exact w)))

        short : k ≤ max_length * max_nodes
        short = short-distance n node v k (ap code shortest)

        go : Dec (k ≤ bound) → Found net source bound v entry
        go (yes h) =
            let kept : entry ≡ suc k = clip.near (omega (arith, short)) ∙ e in
            record {
              bounded = kept ∙ ap code (sym (least-unique (bounded-distance net n.ends bound source v) (attained (walk, h) (λ m w. omega (arith, exact w.0)))));
              whole = λ wide. kept ∙ ap code (sym shortest);
              small = omega (arith, short);
            }
        go (no h) =
            let cut : entry ≡ 0 = clip.far (omega (arith, short)) in
            record {
              bounded = cut ∙ ap code (sym (least-unique (bounded-distance net n.ends bound source v) (no_walk (λ m w. omega (arith, exact w.0, w.1)))));
              whole = λ wide. absurd (omega (arith, short));
              small = omega arith;
            }

    -- there is no walk
    by-none : ((k : ℕ) → Walk net source v k → ⊥) → entry ≡ 0 → Found net source bound v entry
    unfolding code
    by-none none cut =
        record {
          bounded = cut ∙ ap code (sym (least-unique (bounded-distance net n.ends bound source v) (no_walk (λ m w. none m w.0))));
          whole = λ wide. cut ∙ ap code (sym (least-unique (law v) (no_walk none)));
          small = omega arith;
        }

    pub passes-found : Found net source bound v entry
    passes-found = go (ℕ_discrete (get_or dist v 0) 0) (dec_lt (get_or dist v 0) unreached)
      where
        go : Dec (get_or dist v 0 ≡ 0) → Dec (get_or dist v 0 < unreached) → Found net source bound v entry
        go (yes e) d = by-none (λ k w. omega (arith, reached w)) (clip.near (omega arith) ∙ e)
        go (no e) (yes h) = by-entry (pred (get_or dist v 0)) (omega arith) (r.walks v (pred (get_or dist v 0)) (omega arith) (omega arith))
        go (no e) (no h) = by-none (λ k w. omega (arith, reached w)) (clip.far (omega arith))
