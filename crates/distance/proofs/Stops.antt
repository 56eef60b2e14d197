-- What the entries say when the search stops.
use mathlib.Core.List.{List}
use mathlib.Core.Logic.{◌⊎◌, inl, inr, ⊎_elim}
use mathlib.Core.Path.{◌≡◌, ◌∙◌, refl, sym, ap}
use Prim.Native.Nat.{ℕ, suc, pred, ◌*◌, ◌≤◌, ◌<◌}
use native.Mathlib.Decide.{ℕ_discrete, dec_le}
use native.Mathlib.Omega.{arith}
use lib.ListN.{get_or}
use Rattle.model.proofs.Laws.Least.{least-unique}
use Rattle.model.proofs.Laws.NodeDistance.{node-distance, bounded-distance}
use Rattle.model.specs.Distance.{code}
use Rattle.model.specs.Limits.{max_length, max_nodes}
use Rattle.model.specs.Network.{Network, EndsAreNodes}
use Rattle.model.specs.NodeDistance.{node_distance_of, bounded_distance, IsNodeDistance, IsBoundedDistance}
use Rattle.model.specs.Walk.{attained, no_walk}
use Rattle.distance.specs.Search.{Settled, State, Searched, Clipped}
use Rattle.distance.proofs.Nearest.{Nearer, nearer, no-shorter, waits-or-settled}
use Rattle.distance.proofs.Offer.{few}

-- when nothing within the bound waits any more, an entry within the bound is the distance, and any other node is beyond
stopped : (net : Network) → EndsAreNodes net → (source bound : ℕ) (dist front : List ℕ) (len picked v : ℕ) → State net source bound dist front len picked 0 → ((j : ℕ) → j < len → suc bound < get_or dist (get_or front j 0) 0) → ((get_or dist v 0 ≤ suc bound) × (get_or dist v 0 ≡ code (bounded_distance net bound source v))) ⊎ ((suc bound < get_or dist v 0) × (0 ≡ code (bounded_distance net bound source v)))
unfolding code
stopped net ends source bound dist front len picked v s far = go (dec_le (get_or dist v 0) (suc bound)) (ℕ_discrete (get_or dist v 0) 0)
  where
    law : IsBoundedDistance net bound source v (bounded_distance net bound source v)
    law = bounded-distance net ends bound source v

    -- nothing that waits is as near as a walk within the bound
    settled-by : (n : ℕ) → n ≤ bound → Settled net source bound dist v 0 ⊎ Nearer dist front len n → Settled net source bound dist v 0
    settled-by n l (inl x) = x
    settled-by n l (inr (nearer j j_in e)) = absurd (too-near (far j j_in))
      where
        too-near : suc bound < get_or dist (get_or front j 0) 0 → ⊥
        too-near f = omega arith

    beyond : (Settled net source bound dist v 0 → ⊥) → 0 ≡ code (bounded_distance net bound source v)
    beyond not = ap code (sym (least-unique law (no_walk (λ n w. not (settled-by n w.1 (no-shorter s w.0))))))

    found : (n : ℕ) → get_or dist v 0 ≡ suc n → get_or dist v 0 ≤ suc bound → get_or dist v 0 ≡ code (bounded_distance net bound source v)
    found n e near =
        let x = settled-by n (omega arith) (waits-or-settled v n s (omega arith) (omega arith)) in
        e ∙ ap code (sym (least-unique law (attained (s.walks v n e, omega arith) (λ m w. omega (arith, x.exact m w.0)))))

    go : Dec (get_or dist v 0 ≤ suc bound) → Dec (get_or dist v 0 ≡ 0) → ((get_or dist v 0 ≤ suc bound) × (get_or dist v 0 ≡ code (bounded_distance net bound source v))) ⊎ ((suc bound < get_or dist v 0) × (0 ≡ code (bounded_distance net bound source v)))
    go (yes near) (yes e) = inl (near, e ∙ beyond (λ x. omega (arith, x.reached)))
    go (yes near) (no e) = inl (near, found (pred (get_or dist v 0)) (omega arith) near)
    go (no f) e = inr (omega arith, beyond (λ x. omega (arith, x.in_bound)))

-- nobody waits: every entry is within the bound
exhausted : {net : Network} {source bound : ℕ} {dist front : List ℕ} {len picked : ℕ} → State net source bound dist front len picked 0 → len ≡ 0 → (v : ℕ) → get_or dist v 0 ≤ suc bound
exhausted {net} {source} {bound} {dist} {front} {len} s empty v = go (ℕ_discrete (get_or dist v 0) 0)
  where
    near : Settled net source bound dist v 0 ⊎ Nearer dist front len (get_or dist v 0) → get_or dist v 0 ≤ suc bound
    near (inl x) = x.in_bound
    near (inr (nearer j h e)) = omega arith

    go : Dec (get_or dist v 0 ≡ 0) → get_or dist v 0 ≤ suc bound
    go (yes e) = omega arith
    go (no e) = near (waits-or-settled v (get_or dist v 0) s (omega arith) (omega arith))

module _ {net : Network} {source bound : ℕ} {dist front : List ℕ} {len picked : ℕ} (ends : EndsAreNodes net) (few_nodes : net.nodes ≤ max_nodes) (s : State net source bound dist front len picked 0) (far : (j : ℕ) → j < len → suc bound < get_or dist (get_or front j 0) 0) where
  -- no entry passes the longest walk worth taking
  all_small : (v : ℕ) → get_or dist v 0 ≤ suc (max_length * max_nodes)
  all_small v = omega (arith, s.small v, few s)

  -- a bound above that cuts nothing off: nobody waits, so a node is settled or has no walk
  nothing-cut : max_length * max_nodes ≤ bound → (v : ℕ) → get_or dist v 0 ≡ code (node_distance_of net source v)
  unfolding code
  nothing-cut wide v = go (ℕ_discrete (get_or dist v 0) 0)
    where
      law : IsNodeDistance net source v (node_distance_of net source v)
      law = node-distance net ends source v

      settled-by : (n : ℕ) → Settled net source bound dist v 0 ⊎ Nearer dist front len n → Settled net source bound dist v 0
      settled-by n (inl x) = x
      settled-by n (inr (nearer j j_in e)) = absurd (omega (arith, far j j_in, all_small (get_or front j 0)))

      found : (n : ℕ) → get_or dist v 0 ≡ suc n → get_or dist v 0 ≡ code (node_distance_of net source v)
      found n e =
          let x = settled-by n (waits-or-settled v n s (omega arith) (omega arith)) in
          e ∙ ap code (sym (least-unique law (attained (s.walks v n e) (λ m w. omega (arith, x.exact m w)))))

      go : Dec (get_or dist v 0 ≡ 0) → get_or dist v 0 ≡ code (node_distance_of net source v)
      go (yes e) = e ∙ ap code (sym (least-unique law (no_walk (λ n w. let x = settled-by n (no-shorter s w) in omega (arith, x.reached)))))
      go (no e) = found (pred (get_or dist v 0)) (omega arith)

  -- what is left once the entries beyond the bound are 0
  pub searched : (dist' : List ℕ) → ((v : ℕ) → Clipped bound (get_or dist v 0) (get_or dist' v 0)) → Searched net source bound dist'
  searched dist' clip =
      record {
        at = λ v.
            record {
              bounded = ⊎_elim (λ x. (clip v).near x.0 ∙ x.1) (λ x. (clip v).far x.0 ∙ x.1) (stopped net ends source bound dist front len picked v s far);
              whole = λ wide. (clip v).near (omega (arith, all_small v)) ∙ nothing-cut wide v;
              small = small v (dec_le (get_or dist v 0) (suc bound));
            };
      }
    where
      small : (v : ℕ) → Dec (get_or dist v 0 ≤ suc bound) → get_or dist' v 0 ≤ suc (max_length * max_nodes)
      small v (yes h) = omega (arith, (clip v).near h, all_small v)
      small v (no h) = omega (arith, (clip v).far (omega arith))

-- nobody waits: no entry is beyond the bound
pub searched-all : {net : Network} {source bound : ℕ} {dist front : List ℕ} {len picked : ℕ} → EndsAreNodes net → net.nodes ≤ max_nodes → State net source bound dist front len picked 0 → len ≡ 0 → Searched net source bound dist
searched-all {dist = dist} ends few_nodes s empty =
    searched ends few_nodes s (λ j h. omega arith) dist
    (λ v. record { near = λ h. refl; far = λ h. omega (arith, exhausted s empty v) })
