-- No distance is above the greatest length times the number of nodes: along a shortest walk each node is nearer than the next, by one edge
-- at most.
use mathlib.Core.Bool.{Bool, true, false, true≢false, not, ◌&&◌}
use mathlib.Core.Logic.{◌⊎◌, inl, inr}
use mathlib.Core.Path.{◌≡◌, ◌∙◌, refl, sym, ap, subst}
use Prim.Native.Nat.{ℕ, zero, suc, pred, ◌+◌, ◌*◌, ◌≤◌, ◌<◌}
use native.Mathlib.Decide.{ℕ_discrete}
use native.Mathlib.Omega.{arith}
use borrow.Author.Tests.{ne_eqb, le-leb, lt-leb, leb-true}
use lib.Dec.{leb, eqb}
use Rattle.model.proofs.Laws.Checks.{IsNetwork}
use Rattle.model.proofs.Laws.Counting.{count-below-mono, count-but-one}
use Rattle.model.proofs.Laws.NodeDistance.{node-distance}
use Rattle.model.specs.Counting.{count_below_of}
use Rattle.model.specs.Distance.{Distance, code}
use Rattle.model.specs.Limits.{max_length, max_nodes}
use Rattle.model.specs.Network.{Network, IsNode, EndsAreNodes, edges, size}
use Rattle.model.specs.NodeDistance.{node_distance_of}
use Rattle.model.specs.Walk.{Walk, here, onward, Joins, forward, backward, IsLeast, attained, no_walk}
use Rattle.distance.proofs.Offer.{count_most}

-- a least length by its code
pub record LeastLength (Walks : ℕ → Type 0) (d : Distance) (m : ℕ) : Type 0 where
  pub is : code d ≡ suc m
  pub walk : Walks m
  pub least : (n : ℕ) → Walks n → m ≤ n

pub by_code : {Walks : ℕ → Type 0} {d : Distance} (m : ℕ) → IsLeast Walks d → code d ≡ suc m → LeastLength Walks d m
unfolding code
by_code {Walks} m (attained {m = k} walk least) e =
    let same : k ≡ m = omega arith in
    record { is = e; walk = subst Walks same walk; least = λ n w. omega (arith, least n w) }
by_code m (no_walk none) e = absurd (omega arith)

pub by-walk : {Walks : ℕ → Type 0} {d : Distance} (n : ℕ) → IsLeast Walks d → Walks n → (m : ℕ) × LeastLength Walks d m
unfolding code
by-walk n (attained {m = k} walk least) w = (k, record { is = refl; walk = walk; least = least })
by-walk n (no_walk none) w = absurd (none n w)

-- a walk from a node ends at a node
pub walk_end : {net : Network} {u v n : ℕ} → EndsAreNodes net → IsNode net u → Walk net u v n → IsNode net v
walk_end ends node here = node
walk_end {net} ends node (onward {w = w} i h before joins) = go joins
  where
    go : {x : ℕ} → Joins net i x w → IsNode net w
    go (forward p q) = subst (IsNode net) q (ends.second_is i h)
    go (backward p q) = subst (IsNode net) q (ends.first_is i h)

-- the last edge of a walk that has one
record LastEdge (net : Network) (u v long : ℕ) : Type 0 where
  i : ℕ
  inside : i < edges net
  from : ℕ
  n : ℕ
  before : Walk net u from n
  joins : Joins net i from v
  is : long ≡ n + size net i

last-edge : {net : Network} {u v long : ℕ} → Walk net u v long → (long ≡ 0) ⊎ LastEdge net u v long
last-edge here = inl refl
last-edge (onward i h before joins) = inr (record { i = i; inside = h; from = _; n = _; before = before; joins = joins; is = refl })

-- a test that passes fewer numbers: all that the other passes but one
count-fewer : (n i : ℕ) (f g : ℕ → Bool) → i < n → f i ≡ false → g i ≡ true → ((j : ℕ) → f j ≡ true → g j ≡ true) → count_below_of n f + 1 ≤ count_below_of n g
count-fewer n i f g h off on more = omega (arith, count-but-one n i g h on, count-below-mono n f (λ j. not (eqb i j) && g j) (λ j l e. passes j e (ℕ_discrete i j)))
  where
    passes : (j : ℕ) → f j ≡ true → Dec (i ≡ j) → (not (eqb i j) && g j) ≡ true
    passes j e (yes q) = absurd (true≢false (sym e ∙ ap f (sym q) ∙ off))
    passes j e (no q) = rw (ne_eqb i j q, more j e)

module _ {net : Network} (n : IsNetwork net) {source : ℕ} (node : IsNode net source) where
  abbrev entry : ℕ → ℕ
  entry v = code (node_distance_of net source v)

  law : (v : ℕ) → IsLeast (Walk net source v) (node_distance_of net source v)
  law v = node-distance net n.ends source v

  -- how many nodes are nearer than m metres, or have no walk
  abbrev nearer : ℕ → ℕ
  nearer m = count_below_of net.nodes (λ k. leb (entry (suc k)) m)

  -- the node u is k metres away, k below m
  one-nearer : (u k m : ℕ) → IsNode net u → entry u ≡ suc k → k < m → nearer k + 1 ≤ nearer m
  one-nearer u k m is e h =
      count-fewer net.nodes (pred u) (λ j. leb (entry (suc j)) k) (λ j. leb (entry (suc j)) m)
      (omega (arith, is.from_one, is.to_nodes))
      (rw (suc-pred, e) (lt-leb (suc k) k (omega arith)))
      (rw (suc-pred, e) (le-leb (suc k) m (omega arith)))
      (λ j q. le-leb (entry (suc j)) m (omega (arith, leb-true (entry (suc j)) k q)))
    where
      suc-pred : suc (pred u) ≡ u
      suc-pred = omega (arith, is.from_one)

  within_all : (fuel m v : ℕ) → m ≤ fuel → entry v ≡ suc m → m ≤ max_length * nearer m
  within_all zero m v h e = omega arith
  within_all (suc fuel) m v h e = go (within_all fuel) (by_code m (law v) e) (last-edge (by_code m (law v) e).walk)
    where
      go : ((l u : ℕ) → l ≤ fuel → entry u ≡ suc l → l ≤ max_length * nearer l) → LeastLength (Walk net source v) (node_distance_of net source v) m → (m ≡ 0) ⊎ LastEdge net source v m → m ≤ max_length * nearer m
      go ih x (inl none) = omega arith
      go ih x (inr y) = through (by-walk y.n (law y.from) y.before)
        where
          through : (l : ℕ) × LeastLength (Walk net source y.from) (node_distance_of net source y.from) l → m ≤ max_length * nearer m
          through (l, z) =
              let near : m ≤ l + size net y.i = x.least _ (onward y.i y.inside z.walk y.joins) in
              let nearest : l ≤ y.n = z.least y.n y.before in
              let least-edge = n.length_from y.i y.inside in
              let closer : l < m = omega (arith, y.is) in
              omega (arith, n.length_to y.i y.inside, ih l y.from (omega arith) z.is, one-nearer y.from l m (walk_end n.ends node y.before) z.is closer)

  -- the law
  pub short-distance : (v m : ℕ) → code (node_distance_of net source v) ≡ suc m → m ≤ max_length * max_nodes
  short-distance v m e = omega (arith, within_all m m v (omega arith) e, count_most net.nodes (λ k. leb (entry (suc k)) m), n.nodes_to)
