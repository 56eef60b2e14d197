-- The state of the search after a node has been offered an entry.
use mathlib.Core.Bool.{Bool, true, false}
use mathlib.Core.List.{List}
use mathlib.Core.Logic.{◌⊎◌, inl, inr, ◌≢◌}
use mathlib.Core.Path.{◌≡◌, ◌∙◌, refl, sym, ap, subst}
use Prim.Native.Nat.{ℕ, zero, suc, pred, ◌+◌, ◌*◌, ◌≤◌, ◌<◌}
use native.Mathlib.Decide.{ℕ_discrete}
use native.Mathlib.Omega.{arith}
use borrow.Author.Tests.{le-leb, lt-leb}
use lib.Dec.{leb}
use lib.ListN.{length, get_or, set, length-set}
use lib.Seq.{get_or-set_same, get_or-set_other}
use Rattle.model.proofs.Laws.Counting.{count-below-cong, count-below-mono, sum-below-cong, sum-below-one, one-if-one}
use Rattle.model.specs.Counting.{count_below_of, sum_below, one_if}
use Rattle.model.specs.Limits.{max_length}
use Rattle.model.specs.Network.{Network, IsNode}
use Rattle.model.specs.Walk.{Walk}
use Rattle.distance.specs.Arcs.{tail}
use Rattle.distance.specs.Search.{at, Settled, Status, waiting, settled, followed, State, Following}
use Rattle.distance.proofs.Lists.{AfterStore, set_cases}

-- one more number passes the test
pub count-one-more : (n i : ℕ) (f g : ℕ → Bool) → i < n → f i ≡ false → g i ≡ true → ((j : ℕ) → j < n → j ≢ i → g j ≡ f j) → count_below_of n g ≡ suc (count_below_of n f)
unfolding count_below_of sum_below one_if
count-one-more zero i f g h off on same = omega arith
count-one-more (suc n) i f g h off on same = go (ℕ_discrete n i) (λ l. count-one-more n i f g l off on (λ j k. same j (omega arith)))
  where
    last : n ≡ i → one_if (g n) ≡ suc (one_if (f n))
    last e = rw (e, on, off)

    go : Dec (n ≡ i) → (i < n → count_below_of n g ≡ suc (count_below_of n f)) → sum_below n (λ j. one_if (g j)) + one_if (g n) ≡ suc (sum_below n (λ j. one_if (f j)) + one_if (f n))
    go (yes e) ih = omega (arith, last e, sum-below-cong n (λ j. one_if (g j)) (λ j. one_if (f j)) (λ j k. ap one_if (same j (omega arith) (omega arith))))
    go (no e) ih = omega (arith, ih (omega arith), ap one_if (same n (omega arith) e))

-- no more than all pass
pub count_most : (n : ℕ) (f : ℕ → Bool) → count_below_of n f ≤ n
unfolding count_below_of one_if
count_most n f = subst (λ (k : ℕ). count_below_of n f ≤ k) (sum-below-one n) (count-below-mono n f (λ j. true) (λ j l e. refl))

-- no more nodes wait and have been picked than there are
pub few : {net : Network} {source bound : ℕ} {dist front : List ℕ} {len picked current : ℕ} → State net source bound dist front len picked current → len + picked ≤ net.nodes
few {net} {dist = dist} s = omega (arith, s.tally, count_most net.nodes (λ k. leb 1 (get_or dist (suc k) 0)))

-- where one number fails, fewer than all pass
count-short : (n i : ℕ) (f : ℕ → Bool) → i < n → f i ≡ false → count_below_of n f < n
unfolding count_below_of sum_below one_if
count-short zero i f h off = omega arith
count-short (suc n) i f h off = go (ℕ_discrete n i) (λ l. count-short n i f l off)
  where
    go : Dec (n ≡ i) → (i < n → count_below_of n f < n) → sum_below n (λ j. one_if (f j)) + one_if (f n) < suc n
    go (yes e) ih = omega (arith, count_most n f, ap one_if (ap f e ∙ off))
    go (no e) ih = omega (arith, ih (omega arith), one-if-one (f n))

-- while a node has not been reached, fewer wait than there are nodes
pub not-all-wait : {net : Network} {source bound : ℕ} {dist front : List ℕ} {len picked current : ℕ} (w : ℕ) → State net source bound dist front len picked current → IsNode net w → get_or dist w 0 ≡ 0 → len < net.nodes
not-all-wait {net} {dist = dist} {len = len} w s node none = go (pred w) (omega (arith, node.from_one))
  where
    go : (k : ℕ) → w ≡ suc k → len < net.nodes
    go k is =
        omega (arith, s.tally, count-short net.nodes k (λ j. leb 1 (get_or dist (suc j) 0)) (omega (arith, node.to_nodes)) (lt-leb 1 (get_or dist (suc k) 0) (omega (arith, ap (λ (j : ℕ). get_or dist j 0) is))))

module _ (net : Network) (source bound : ℕ) (dist : List ℕ) (w d : ℕ) (new : (get_or dist w 0 ≡ 0) ⊎ (d < get_or dist w 0)) (room : w < length dist) (some : 1 ≤ d) where
  -- an entry that has been reached stays reached and never rises
  kept : (u : ℕ) → 1 ≤ get_or dist u 0 → (1 ≤ get_or (set dist w d) u 0) × (get_or (set dist w d) u 0 ≤ get_or dist u 0)
  kept u reached = go (set_cases dist w d u room) new
    where
      go : AfterStore dist w d u → (get_or dist w 0 ≡ 0) ⊎ (d < get_or dist w 0) → (1 ≤ get_or (set dist w d) u 0) × (get_or (set dist w d) u 0 ≤ get_or dist u 0)
      go (inl (e, q)) (inl z) = omega (arith, ap (λ (k : ℕ). get_or dist k 0) e)
      go (inl (e, q)) (inr l) = omega (arith, ap (λ (k : ℕ). get_or dist k 0) e)
      go (inr (e, q)) n = omega arith

  -- a node settled before has a walk as short as its entry, so it is not the one offered something nearer
  pub not-settled : {low : ℕ} (u m : ℕ) → Settled net source bound dist u low → d ≡ suc m → Walk net source w m → u ≢ w
  not-settled u m s e way = λ q. go q new
    where
      go : u ≡ w → (get_or dist w 0 ≡ 0) ⊎ (d < get_or dist w 0) → ⊥
      go q (inl z) = omega (arith, s.reached, ap (λ (k : ℕ). get_or dist k 0) q)
      go q (inr l) = omega (arith, ap (λ (k : ℕ). get_or dist k 0) q, s.exact m (subst (λ (k : ℕ). Walk net source k m) (sym q) way))

  -- what was followed from a settled node still is
  still-settled : (u low : ℕ) → u ≢ w → Settled net source bound dist u low → Settled net source bound (set dist w d) u low
  still-settled u low other s =
      let same : get_or (set dist w d) u 0 ≡ get_or dist u 0 = get_or-set_other dist w u d 0 other in
      record {
        reached = omega (arith, s.reached);
        exact = λ n way. omega (arith, s.exact n way);
        in_bound = omega (arith, s.in_bound);
        followed = λ a l h e. let f = s.followed a l h e in let k = kept (tail net.seconds net.firsts a) f.reached in record { reached = k.0; near = omega (arith, f.near, k.1) };
      }

  -- an entry that is 0 or above the one offered is nobody's settled entry; the parts of the state that do not speak of the front
  module _ (front : List ℕ) (len picked v low m : ℕ) (f : Following net source bound dist front len picked v low) (is : d ≡ suc m) (way : Walk net source w m) (node : IsNode net w) (small : d ≤ suc (max_length * picked)) where
    lower-nodes : (u : ℕ) → 1 ≤ get_or (set dist w d) u 0 → IsNode net u
    lower-nodes u h = go (set_cases dist w d u room)
      where
        go : AfterStore dist w d u → IsNode net u
        go (inl (e, q)) = subst (IsNode net) (sym e) node
        go (inr (e, q)) = f.state.only_nodes u (omega arith)

    lower_walks : (u n : ℕ) → get_or (set dist w d) u 0 ≡ suc n → Walk net source u n
    lower_walks u n h = go (set_cases dist w d u room)
      where
        go : AfterStore dist w d u → Walk net source u n
        go (inl (e, q)) = rw (e, omega-same) way
          where
            omega-same : n ≡ m
            omega-same = omega arith
        go (inr (e, q)) = f.state.walks u n (sym q ∙ h)

    lower-source : get_or (set dist w d) source 0 ≡ 1
    lower-source = go (set_cases dist w d source room) new
      where
        go : AfterStore dist w d source → (get_or dist w 0 ≡ 0) ⊎ (d < get_or dist w 0) → get_or (set dist w d) source 0 ≡ 1
        go (inl (e, q)) (inl z) = omega (arith, f.state.from_source, ap (λ (k : ℕ). get_or dist k 0) e)
        go (inl (e, q)) (inr l) = omega (arith, f.state.from_source, ap (λ (k : ℕ). get_or dist k 0) e)
        go (inr (e, q)) n = q ∙ f.state.from_source

    lower-small : (u : ℕ) → get_or (set dist w d) u 0 ≤ suc (max_length * picked)
    lower-small u = go (set_cases dist w d u room)
      where
        go : AfterStore dist w d u → get_or (set dist w d) u 0 ≤ suc (max_length * picked)
        go (inl (e, q)) = omega arith
        go (inr (e, q)) = omega (arith, f.state.small u)

    current-other : v ≢ w
    current-other = not-settled v m f.so_far is way

    lower-following : (front' : List ℕ) (len' : ℕ) → State net source bound (set dist w d) front' len' picked v → Following net source bound (set dist w d) front' len' picked v low
    lower-following front' len' s =
        let k = kept v f.so_far.reached in
        record { state = s; so_far = still-settled v low current-other f.so_far; next_small = omega (arith, f.next_small, k.1) }

    -- a status other than of w itself, with a front that still holds what it held
    lower-status : (front' : List ℕ) (len' u : ℕ) → ((k : ℕ) → k < len → (k < len') × (get_or front' k 0 ≡ get_or front k 0)) → 1 ≤ get_or dist u 0 → Status net source bound dist front len v u → Status net source bound (set dist w d) front' len' v u
    lower-status front' len' u holds reached (waiting (at k h e)) = waiting (at k (holds k h).0 ((holds k h).1 ∙ e))
    lower-status front' len' u holds reached (settled s) = settled (still-settled u 0 (not-settled u m s is way) s)
    lower-status front' len' u holds reached (followed e) = followed e

    test-other : (k : ℕ) → suc k ≢ w → leb 1 (get_or (set dist w d) (suc k) 0) ≡ leb 1 (get_or dist (suc k) 0)
    test-other k other = ap (leb 1) (get_or-set_other dist w (suc k) d 0 other)

  -- w's entry falls, its place in the front stays
  pub after-lowered : (front : List ℕ) (len picked v low m : ℕ) → Following net source bound dist front len picked v low → d ≡ suc m → Walk net source w m → IsNode net w → d ≤ suc (max_length * picked) → 1 ≤ get_or dist w 0 → Following net source bound (set dist w d) front len picked v low
  after-lowered front len picked v low m f is way node small reached =
      lower-following front len picked v low m f is way node small front len
      (record {
        room = rw length-set f.state.room;
        front_room = f.state.front_room;
        only_nodes = lower-nodes front len picked v low m f is way node small;
        walks = lower_walks front len picked v low m f is way node small;
        status = λ u h. lower-status front len picked v low m f is way node small front len u (λ k l. (l, refl)) (before u h) (f.state.status u (before u h));
        from_source = lower-source front len picked v low m f is way node small;
        front_reached = λ k l. (kept (get_or front k 0) (f.state.front_reached k l)).0;
        tally = f.state.tally ∙ count-below-cong net.nodes (λ k. leb 1 (get_or dist (suc k) 0)) (λ k. leb 1 (get_or (set dist w d) (suc k) 0)) (λ k l. same k (set_cases dist w d (suc k) room));
        small = lower-small front len picked v low m f is way node small;
      })
    where
      before : (u : ℕ) → 1 ≤ get_or (set dist w d) u 0 → 1 ≤ get_or dist u 0
      before u h = go (set_cases dist w d u room)
        where
          go : AfterStore dist w d u → 1 ≤ get_or dist u 0
          go (inl (e, q)) = rw e reached
          go (inr (e, q)) = omega arith

      same : (k : ℕ) → AfterStore dist w d (suc k) → leb 1 (get_or dist (suc k) 0) ≡ leb 1 (get_or (set dist w d) (suc k) 0)
      same k (inl (e, q)) = le-leb 1 (get_or dist (suc k) 0) (rw e reached) ∙ sym (le-leb 1 (get_or (set dist w d) (suc k) 0) (omega arith))
      same k (inr (e, q)) = ap (leb 1) (sym q)

  -- w enters the front
  pub after-entered : (front : List ℕ) (len picked v low m : ℕ) → Following net source bound dist front len picked v low → d ≡ suc m → Walk net source w m → IsNode net w → d ≤ suc (max_length * picked) → get_or dist w 0 ≡ 0 → Following net source bound (set dist w d) (set front len w) (len + 1) picked v low
  after-entered front len picked v low m f is way node small none = go (pred w) (omega (arith, node.from_one))
    where
      go : (k : ℕ) → w ≡ suc k → Following net source bound (set dist w d) (set front len w) (len + 1) picked v low
      go k e =
          lower-following front len picked v low m f is way node small (set front len w) (len + 1)
          (record {
            room = rw length-set f.state.room;
            front_room = rw length-set f.state.front_room;
            only_nodes = lower-nodes front len picked v low m f is way node small;
            walks = lower_walks front len picked v low m f is way node small;
            status = λ u h. status u h (set_cases dist w d u room);
            from_source = lower-source front len picked v low m f is way node small;
            front_reached = λ j l. reached j l (set_cases front len w j fits);
            tally = omega (arith, f.state.tally, count-one-more net.nodes k (λ j. leb 1 (get_or dist (suc j) 0)) (λ j. leb 1 (get_or (set dist w d) (suc j) 0)) (omega (arith, node.to_nodes)) (lt-leb 1 (get_or dist (suc k) 0) (omega (arith, ap (λ (j : ℕ). get_or dist j 0) e))) (le-leb 1 (get_or (set dist w d) (suc k) 0) (here k e)) (λ j l other. test-other front len picked v low m f is way node small j (λ q. other (omega arith))));
            small = lower-small front len picked v low m f is way node small;
          })
        where
          fits : len < length front
          fits = omega (arith, not-all-wait w f.state node none, f.state.front_room)

          here : (k : ℕ) → w ≡ suc k → 1 ≤ get_or (set dist w d) (suc k) 0
          here k e = subst (λ (j : ℕ). 1 ≤ get_or (set dist w d) j 0) e (omega (arith, get_or-set_same dist w d 0 room))

          holds : (k : ℕ) → k < len → (k < len + 1) × (get_or (set front len w) k 0 ≡ get_or front k 0)
          holds k l = (omega arith, get_or-set_other front len k w 0 (omega arith))

          status : (u : ℕ) → 1 ≤ get_or (set dist w d) u 0 → AfterStore dist w d u → Status net source bound (set dist w d) (set front len w) (len + 1) v u
          status u h (inl (e, q)) = waiting (at len (omega arith) (get_or-set_same front len w 0 fits ∙ sym e))
          status u h (inr (e, q)) =
              let old : 1 ≤ get_or dist u 0 = omega arith in
              lower-status front len picked v low m f is way node small (set front len w) (len + 1) u holds old (f.state.status u old)

          reached : (j : ℕ) → j < len + 1 → AfterStore front len w j → 1 ≤ get_or (set dist w d) (get_or (set front len w) j 0) 0
          reached j l (inl (e, q)) = rw (q, get_or-set_same dist w d 0 room) some
          reached j l (inr (e, q)) = rw q (kept (get_or front j 0) (f.state.front_reached j (omega arith))).0
