-- Gathering what stands beside a set's number: how the loop goes.
use mathlib.Core.Bool.{cond}
use mathlib.Core.List.{List, ◌∷◌, ◌++◌, append-nil}
use mathlib.Core.Path.{◌≡◌, refl, sym, ap, ◌∙◌}
use Prim.Native.Nat.{ℕ, ◌+◌, ◌≤◌, ◌<◌}
use native.Mathlib.Omega.{arith}
use lib.Dec.{eqb}
use lib.ListN.{length, get_or, take, drop, set, drop_of_length-le}
use borrow.Author.Tests.{eq-eqb, ne_eqb}
use Rattle.layout.proofs.Laws.Filling.{next_of, one_more}
use Rattle.model.specs.Counting.{count_if, one_if}
use Rattle.model.specs.Events.{having, set_size}
use Rattle.prepare.specs.Laying.{Gathered}

-- n values gathered from the first k places
pub record Gathering (sets values : List ℕ) (s n k : ℕ) (out : List ℕ) : Type 0 where
  pub front : having s sets values ≡ take n out ++ having s (drop k sets) (drop k values)
  pub tally : n + set_size (drop k sets) s ≡ set_size sets s

module _ (sets values : List ℕ) (s : ℕ) where
  pub gather-begins : (out : List ℕ) → Gathering sets values s 0 0 out
  gather-begins out = record { front = refl; tally = omega arith }

  -- the size of a set counts the place k
  size-next : (k : ℕ) → k < length sets → set_size (drop k sets) s ≡ one_if (eqb (get_or sets k 0) s) + set_size (drop (k + 1) sets) s
  unfolding set_size count_if
  size-next k h = rw (next_of sets k h)

  having-next : (k : ℕ) → k < length sets → k < length values
      → having s (drop k sets) (drop k values)
      ≡ cond (eqb (get_or sets k 0) s) (get_or values k 0 ∷ having s (drop (k + 1) sets) (drop (k + 1) values)) (having s (drop (k + 1) sets) (drop (k + 1) values))
  unfolding having
  having-next k h v = rw (next_of sets k h, next_of values k v)

  module _ (out : List ℕ) (n k : ℕ) (in-sets : k < length sets) (in-values : k < length values) (g : Gathering sets values s n k out) where
    -- a place of the set has room
    pub room-left : get_or sets k 0 ≡ s → n < set_size sets s
    unfolding one_if
    room-left e = omega (arith, g.tally, simp (eq-eqb _ _ e) at (size-next k in-sets))

    pub gather-takes : get_or sets k 0 ≡ s → n < length out → Gathering sets values s (n + 1) (k + 1) (set out n (get_or values k 0))
    unfolding one_if
    gather-takes e room =
        record {
          front = one_more (having s sets values) out (having s (drop (k + 1) sets) (drop (k + 1) values)) n (get_or values k 0) room
              (g.front ∙ ap (λ (l : List ℕ). take n out ++ l) (simp (eq-eqb _ _ e) at (having-next k in-sets in-values)));
          tally = omega (arith, g.tally, simp (eq-eqb _ _ e) at (size-next k in-sets));
        }

    pub gather-passes : (get_or sets k 0 ≡ s → ⊥) → Gathering sets values s n (k + 1) out
    unfolding one_if
    gather-passes e =
        record {
          front = g.front ∙ ap (λ (l : List ℕ). take n out ++ l) (simp (ne_eqb _ _ e) at (having-next k in-sets in-values));
          tally = omega (arith, g.tally, simp (ne_eqb _ _ e) at (size-next k in-sets));
        }

  pub gather-ends : (out : List ℕ) (n k : ℕ) → length sets ≤ k → Gathering sets values s n k out → Gathered sets values s n out
  unfolding having set_size count_if
  gather-ends out n k h g =
      let nothing = drop_of_length-le sets h in
      record {
        many = omega (arith, rw nothing at g.tally);
        front = sym ((rw nothing at g.front) ∙ append-nil (take n out));
      }
