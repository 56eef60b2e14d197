-- Arcs and edges: each arc is an edge taken one way, each way of an edge is an arc; and where a node's chain of arcs leads.
use mathlib.Core.List.{List}
use mathlib.Core.Path.{◌≡◌, ◌∙◌, refl, sym, ap, subst}
use Prim.Native.Nat.{ℕ, zero, suc, ◌+◌, ◌/◌, ◌%◌, ◌≤◌, ◌<◌}
use native.Mathlib.Decide.{ℕ_discrete}
use native.Mathlib.Omega.{arith}
use borrow.Author.Tests.{eq-eqb, ne_eqb}
use lib.ListN.{get_or}
use Rattle.model.specs.Network.{Network, edges}
use Rattle.model.specs.Walk.{Joins, forward, backward}
use Rattle.distance.specs.Arcs.{tail, last_arc}

-- arc a leads from u to v along the edge at index i
pub record Arc (net : Network) (i u v : ℕ) : Type 0 where
  pub a : ℕ
  pub small : a < edges net + edges net
  pub edge : a / 2 ≡ i
  pub begins : tail net.firsts net.seconds a ≡ u
  pub finishes : tail net.seconds net.firsts a ≡ v

tail-even : (xs ys : List ℕ) (a i : ℕ) → a % 2 ≡ 0 → a / 2 ≡ i → tail xs ys a ≡ get_or xs i 0
unfolding tail
tail-even xs ys a i even half = rw (eq-eqb _ _ even, half)

tail-odd : (xs ys : List ℕ) (a i : ℕ) → (a % 2 ≡ 0 → ⊥) → a / 2 ≡ i → tail xs ys a ≡ get_or ys i 0
unfolding tail
tail-odd xs ys a i odd half = rw (ne_eqb _ _ odd, half)

-- each way of an edge is an arc
pub arc-of : (net : Network) (i u v : ℕ) → i < edges net → Joins net i u v → Arc net i u v
arc-of net i u v h (forward p q) =
    record {
      a = i + i;
      small = omega arith;
      edge = omega arith;
      begins = tail-even net.firsts net.seconds (i + i) i (omega arith) (omega arith) ∙ p;
      finishes = tail-even net.seconds net.firsts (i + i) i (omega arith) (omega arith) ∙ q;
    }
arc-of net i u v h (backward p q) =
    record {
      a = suc (i + i);
      small = omega arith;
      edge = omega arith;
      begins = tail-odd net.firsts net.seconds (suc (i + i)) i (omega arith) (omega arith) ∙ p;
      finishes = tail-odd net.seconds net.firsts (suc (i + i)) i (omega arith) (omega arith) ∙ q;
    }

-- each arc is an edge taken one way
pub arc-joins : (net : Network) (a : ℕ) → Joins net (a / 2) (tail net.firsts net.seconds a) (tail net.seconds net.firsts a)
arc-joins net a = go (ℕ_discrete (a % 2) 0)
  where
    go : Dec (a % 2 ≡ 0) → Joins net (a / 2) (tail net.firsts net.seconds a) (tail net.seconds net.firsts a)
    go (yes e) = forward (sym (tail-even net.firsts net.seconds a (a / 2) e refl)) (sym (tail-even net.seconds net.firsts a (a / 2) e refl))
    go (no n) = backward (sym (tail-odd net.firsts net.seconds a (a / 2) n refl)) (sym (tail-odd net.seconds net.firsts a (a / 2) n refl))

module _ (firsts seconds : List ℕ) (v : ℕ) where
  last-hit : (n : ℕ) → tail firsts seconds n ≡ v → last_arc firsts seconds v (suc n) ≡ suc n
  unfolding last_arc
  last-hit n e = rw (eq-eqb _ _ e)

  last-miss : (n : ℕ) → (tail firsts seconds n ≡ v → ⊥) → last_arc firsts seconds v (suc n) ≡ last_arc firsts seconds v n
  unfolding last_arc
  last-miss n e = rw (ne_eqb _ _ e)

  last-zero : last_arc firsts seconds v 0 ≡ 0
  unfolding last_arc
  last-zero = refl

  -- what holds of last_arc at n and at n + 1 by whether the arc n is v's, holds at every n
  by-arcs : (P : ℕ → ℕ → Type 0) → P 0 0 → ((n : ℕ) → tail firsts seconds n ≡ v → P (suc n) (suc n)) → ((n l : ℕ) → (tail firsts seconds n ≡ v → ⊥) → P n l → P (suc n) l) → (n : ℕ) → P n (last_arc firsts seconds v n)
  by-arcs P none hit miss zero = rw last-zero none
  by-arcs P none hit miss (suc n) = go (ℕ_discrete (tail firsts seconds n) v) (by-arcs P none hit miss n)
    where
      go : Dec (tail firsts seconds n ≡ v) → P n (last_arc firsts seconds v n) → P (suc n) (last_arc firsts seconds v (suc n))
      go (yes e) p = rw (last-hit n e) (hit n e)
      go (no e) p = rw (last-miss n e) (miss n (last_arc firsts seconds v n) e p)

  -- the chain never leads upwards
  pub last-le : (n : ℕ) → last_arc firsts seconds v n ≤ n
  last-le = by-arcs (λ n l. l ≤ n) (omega arith) (λ n e. omega arith) (λ n l e h. omega arith)

  -- no arc of v is passed over
  pub last-skips : (n b : ℕ) → last_arc firsts seconds v n ≤ b → b < n → tail firsts seconds b ≡ v → ⊥
  last-skips =
      by-arcs (λ n l. (b : ℕ) → l ≤ b → b < n → tail firsts seconds b ≡ v → ⊥)
      (λ b low high e. omega arith)
      (λ n h b low high e. omega arith)
      (λ n l m p b low high e. go n l m p b low high e (ℕ_discrete b n))
    where
      go : (n l : ℕ) → (tail firsts seconds n ≡ v → ⊥) → ((b : ℕ) → l ≤ b → b < n → tail firsts seconds b ≡ v → ⊥) → (b : ℕ) → l ≤ b → b < suc n → tail firsts seconds b ≡ v → Dec (b ≡ n) → ⊥
      go n l m p b low high e (yes q) = m (ap (tail firsts seconds) (sym q) ∙ e)
      go n l m p b low high e (no q) = p b low (omega arith) e

  -- the chain leads to an arc of v
  pub last-leads : (n a : ℕ) → last_arc firsts seconds v n ≡ suc a → tail firsts seconds a ≡ v
  last-leads = by-arcs (λ n l. (a : ℕ) → l ≡ suc a → tail firsts seconds a ≡ v) (λ a e. absurd (not-zero a e)) (λ n h a e. subst (λ (k : ℕ). tail firsts seconds k ≡ v) (omega arith) h) (λ n l m p a e. p a e)
    where
      not-zero : (a : ℕ) → ◌≡◌ {A = ℕ} 0 (suc a) → ⊥
      not-zero a e = omega arith

  -- a place that the chain led to leads to itself
  pub last-fixed : (n : ℕ) → last_arc firsts seconds v (last_arc firsts seconds v n) ≡ last_arc firsts seconds v n
  last-fixed = by-arcs (λ n l. last_arc firsts seconds v l ≡ l) last-zero (λ n h. last-hit n h) (λ n l m p. p)
