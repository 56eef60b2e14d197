-- The perimeter count is the number of different locations of the network at exactly that distance from the centre.
use mathlib.Core.Bool.{Bool, true, false≢true}
use mathlib.Core.List.Memᴰ
use mathlib.Core.List.{List, ◌++◌, map, Memᴰ}
use mathlib.Core.Logic.{⊎_elim}
use mathlib.Core.Path.{◌≡◌, refl, sym, ap, subst, ◌∙◌}
use Prim.Native.Nat.{ℕ, zero, suc, pred, ◌≤◌, ◌<◌}
use native.Mathlib.Omega.{arith}
use borrow.Author.Tests.{eqb-true, eq-eqb}
use Rattle.model.specs.Counting.{numbers_from, NoRepeats}
use Rattle.model.specs.Network.{Network, edges, size}
use Rattle.model.specs.Distance.{Distance, metres, none, exactly}
use Rattle.model.specs.Location.{Location, node, inside, IsLocation, a_node, an_inside, location_distance_of}
use Rattle.model.specs.Perimeter.{insides, locations, perimeter_count_of, CountsAt}
use Rattle.model.proofs.Laws.Lists.{no-repeats-append, no-repeats-map, numbers-only, numbers-hold, numbers-no-repeats, passing, passing-length, passing-only, passing-holds, passing-no-repeats}
use Rattle.model.proofs.Laws.Rows.{rows, rows-only, rows-hold, rows-no-repeats}

-- a node is no location strictly inside an edge
node-not-inside : (v i x : ℕ) → node v ≡ inside i x → ⊥
node-not-inside v i x e = let z : ◌≡◌ {A = ℕ} 0 1 = cc in omega arith

module _ (net : Network) where
  -- the offsets strictly inside the edge at an index
  offsets : ℕ → List ℕ
  offsets i = numbers_from 1 (pred (size net i))

  -- the inside locations are those of each edge, one edge after another
  insides-rows : (n : ℕ) → insides net n ≡ rows inside offsets n
  unfolding insides rows offsets
  insides-rows zero = refl
  insides-rows (suc n) = ap (λ l. l ++ map (inside n) (offsets n)) (insides-rows n)

  -- an inside location that is listed is one of the network
  insides-only : (p : Location) → Memᴰ p (insides net (edges net)) → IsLocation net p
  unfolding offsets
  insides-only p m =
      let r = rows-only inside offsets (edges net) (subst (Memᴰ p) (insides-rows (edges net)) m) in
      let bounds = numbers-only 1 (pred (size net r.number)) r.held in
      subst (IsLocation net) r.made (an_inside r.below bounds.0 (omega arith))

  -- every inside location of the network is listed
  insides-hold : (i x : ℕ) → i < edges net → 1 ≤ x → x < size net i → Memᴰ (inside i x) (insides net (edges net))
  unfolding offsets
  insides-hold i x l low high =
      subst
      (Memᴰ (inside i x))
      (sym (insides-rows (edges net)))
      (rows-hold inside offsets (edges net) i l (numbers-hold x 1 (pred (size net i)) low (omega arith)))

  -- no inside location is listed twice
  insides-no-repeats : NoRepeats (insides net (edges net))
  unfolding offsets
  insides-no-repeats =
      subst
      NoRepeats
      (sym (insides-rows (edges net)))
      (rows-no-repeats inside offsets (λ i j a b e. cc) (λ i a b e. cc) (λ i. numbers-no-repeats 1 _) (edges net))

  -- every location of the list is one of the network
  pub locations-only : (p : Location) → Memᴰ p (locations net) → IsLocation net p
  unfolding locations
  locations-only p m = ⊎_elim nodes (insides-only p) (Memᴰ.append_cases (map node (numbers_from 1 net.nodes)) m)
    where
      nodes : Memᴰ p (map node (numbers_from 1 net.nodes)) → IsLocation net p
      nodes l =
          let r = Memᴰ.of_map node (numbers_from 1 net.nodes) l in
          let bounds = numbers-only 1 net.nodes r.1 in
          subst (IsLocation net) r.2 (a_node (record { from_one = bounds.0; to_nodes = omega arith }))

  -- every location of the network is in the list
  pub locations-hold : (p : Location) → IsLocation net p → Memᴰ p (locations net)
  unfolding locations
  locations-hold p (a_node {v = v} h) =
      Memᴰ.append_left
      (insides net (edges net))
      (Memᴰ.map node (numbers-hold v 1 net.nodes h.from_one (omega arith)))
  locations-hold p (an_inside {i = i} {x = x} l low high) =
      Memᴰ.append_right (map node (numbers_from 1 net.nodes)) (insides-hold i x l low high)

  -- no location is in the list twice
  pub locations-no-repeats : NoRepeats (locations net)
  unfolding locations offsets
  locations-no-repeats =
      no-repeats-append
      (no-repeats-map node (λ v w e. cc) (numbers-no-repeats 1 net.nodes))
      insides-no-repeats
      (λ p l m.
      let r = Memᴰ.of_map node (numbers_from 1 net.nodes) l in
      let s = rows-only inside offsets (edges net) (subst (Memᴰ p) (insides-rows (edges net)) m) in
      node-not-inside r.0 s.number s.element (r.2 ∙ sym s.made))

-- the test for an exact distance, read as a fact
pub exactly-true : (d : Distance) (t : ℕ) → exactly d t ≡ true → d ≡ metres t
unfolding exactly
exactly-true (metres n) t e = ap metres (eqb-true n t e)
exactly-true none t e = absurd (false≢true e)

-- the fact as a passed test
pub exactly-is : (d : Distance) (t : ℕ) → d ≡ metres t → exactly d t ≡ true
unfolding exactly
exactly-is d t e = rw e (eq-eqb t t refl)

-- 01: the perimeter count is the number of different places at exactly that distance
pub perimeter-counts : (net : Network) (centre : Location) (radius : ℕ) → CountsAt net centre radius (perimeter_count_of net centre radius)
unfolding perimeter_count_of
perimeter-counts net centre radius =
    let test : Location → Bool = λ q. exactly (location_distance_of net centre q) radius in
    record {
      places = passing test (locations net);
      no_repeats = passing-no-repeats test (locations-no-repeats net);
      all_locations = λ p m. locations-only net p (passing-only test (locations net) m).0;
      all_at = λ p m. exactly-true _ radius (passing-only test (locations net) m).1;
      holds_all = λ p l e. passing-holds test (locations net) (locations-hold net p l) (exactly-is _ radius e);
      as_many = passing-length test (locations net);
    }
