-- What lies on one edge of events laid out: offsets in rising order, none of them beyond the edge.
use mathlib.Core.Bool.{Bool, true, false, cond}
use mathlib.Core.List.{List, [], ◌∷◌}
use mathlib.Core.Path.{◌≡◌, ◌∙◌, refl, sym}
use Prim.Native.Nat.{ℕ, zero, suc, pred, ◌≤◌, ◌<◌}
use native.Mathlib.Nat.{not-suc-le-zero}
use native.Mathlib.Omega.{arith}
use borrow.Author.Tests.{eqb-true}
use lib.Dec.{eqb}
use lib.ListN.{length, get_or}
use Rattle.model.proofs.Laws.Checks.{LaidOutAccepted}
use Rattle.model.proofs.Laws.Counting.{count-at-most}
use Rattle.model.proofs.Laws.Sorted.{in-order-rest, first-in-order, same-edge}
use Rattle.model.proofs.Laws.Stretch.{having-length}
use Rattle.model.specs.Events.{event, events, having, set_size, InOrder}
use Rattle.model.specs.Network.{Network, size}
use Rattle.model.specs.PairCount.{event_at}
use Rattle.edge_pair.specs.Offsets.{Laid, Ordered}

-- what holds of everything beside a key holds of all that is taken from there
having-all : (P : ℕ → Type 0) (e : ℕ) (es xs : List ℕ) → ((k : ℕ) → k < length es → k < length xs → get_or es k 0 ≡ e → P (get_or xs k 0)) → (k : ℕ) → k < length (having e es xs) → P (get_or (having e es xs) k 0)
unfolding having
having-all P e [] xs h k l = absurd (not-suc-le-zero l)
having-all P e (t ∷ ts) [] h k l = absurd (not-suc-le-zero l)
having-all P e (t ∷ ts) (x ∷ xs) h k l = go (eqb t e) refl (having-all P e ts xs (λ j m n same. h (suc j) (omega arith) (omega arith) same)) k l
  where
    go : (b : Bool) → eqb t e ≡ b → ((k : ℕ) → k < length (having e ts xs) → P (get_or (having e ts xs) k 0)) → (k : ℕ) → k < length (cond b (x ∷ having e ts xs) (having e ts xs)) → P (get_or (cond b (x ∷ having e ts xs) (having e ts xs)) k 0)
    go true q rest zero l = h 0 (omega arith) (omega arith) (eqb-true t e q)
    go true q rest (suc k) l = rest k (omega arith)
    go false q rest k l = rest k l

-- a number in front of ordered ones that are no lower
ordered-more : (x : ℕ) (xs : List ℕ) → ((k : ℕ) → k < length xs → x ≤ get_or xs k 0) → Ordered xs → Ordered (x ∷ xs)
ordered-more x xs least rest = record { in_order = go }
  where
    go : (i j : ℕ) → i ≤ j → j < suc (length xs) → get_or (x ∷ xs) i 0 ≤ get_or (x ∷ xs) j 0
    go zero zero h l = omega arith
    go zero (suc j) h l = least j (omega arith)
    go (suc i) zero h l = absurd (omega arith)
    go (suc i) (suc j) h l = rest.in_order i j (omega arith) (omega arith)

-- the event at a place of both lists
events-in : (es xs : List ℕ) (k : ℕ) → k < length es → k < length xs → k < length (events es xs)
unfolding events
events-in [] xs k h l = absurd (not-suc-le-zero h)
events-in (e ∷ es) [] k h l = absurd (not-suc-le-zero l)
events-in (e ∷ es) (x ∷ xs) zero h l = omega arith
events-in (e ∷ es) (x ∷ xs) (suc k) h l = omega (arith, events-in es xs k (omega arith) (omega arith))

events-at : (es xs : List ℕ) (k : ℕ) → k < length es → k < length xs → event_at (events es xs) k ≡ event (get_or es k 0) (get_or xs k 0)
unfolding events
events-at [] xs k h l = absurd (not-suc-le-zero h)
events-at (e ∷ es) [] k h l = absurd (not-suc-le-zero l)
events-at (e ∷ es) (x ∷ xs) zero h l = refl
events-at (e ∷ es) (x ∷ xs) (suc k) h l = events-at es xs k (omega arith) (omega arith)

-- so the offsets on an edge are in order
pub on-edge-ordered : (es xs : List ℕ) → InOrder (events es xs) → (e : ℕ) → Ordered (having e es xs)
unfolding having events
on-edge-ordered [] xs o e = record { in_order = λ i j h l. absurd (not-suc-le-zero l) }
on-edge-ordered (t ∷ ts) [] o e = record { in_order = λ i j h l. absurd (not-suc-le-zero l) }
on-edge-ordered (t ∷ ts) (x ∷ xs) o e = go (eqb t e) refl (on-edge-ordered ts xs (in-order-rest o) e)
  where
    least : t ≡ e → (k : ℕ) → k < length ts → k < length xs → get_or ts k 0 ≡ e → x ≤ get_or xs k 0
    least q k m n same =
        same-edge (event t x) (event (get_or ts k 0) (get_or xs k 0)) (q ∙ sym same) (rw (events-at ts xs k m n) at (first-in-order (event t x) (events ts xs) o k (events-in ts xs k m n)))

    go : (b : Bool) → eqb t e ≡ b → Ordered (having e ts xs) → Ordered (cond b (x ∷ having e ts xs) (having e ts xs))
    go true q rest = ordered-more x (having e ts xs) (having-all (λ y. x ≤ y) e ts xs (least (eqb-true t e q))) rest
    go false q rest = rest

few-on-edge : (es : List ℕ) (e : ℕ) → set_size es e ≤ length es
unfolding set_size
few-on-edge es e = count-at-most _ es

pub laid-on-edge : (net : Network) (es xs : List ℕ) (e edge : ℕ) → LaidOutAccepted net es xs edge → Laid (size net (pred e)) (having e es xs)
laid-on-edge net es xs e edge a =
    let are = a.are-events in
    record {
      ordered = on-edge-ordered es xs a.in_order e;
      on_edge = record { on = having-all (λ y. y ≤ size net (pred e)) e es xs (λ k m n same. rw same at (are.event-at k m).on_edge) };
      few = omega (arith, having-length e es xs are.same_length, few-on-edge es e, are.few);
    }
