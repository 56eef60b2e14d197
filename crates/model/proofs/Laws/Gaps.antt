-- The least over two kinds of walks, and over the routes from a choice of ends to a choice of ends.
use mathlib.Core.List.Memᴰ
use mathlib.Core.List.{List, [], ◌∷◌, map, Memᴰ}
use mathlib.Core.Logic.{◌⊎◌, inl, inr, ⊎_elim}
use mathlib.Core.Path.{◌≡◌, refl, subst}
use Prim.Native.Nat.{ℕ, ◌+◌, ◌≤◌, min}
use native.Mathlib.Omega.{arith, min_cases}
use Rattle.model.specs.Distance.{Distance, metres, least, plus, least_of}
use Rattle.model.specs.Location.{End, route, routes}
use Rattle.model.specs.Network.{Network, EndsAreNodes}
use Rattle.model.specs.Walk.{Walk, IsLeast, attained, no_walk}
use Rattle.model.proofs.Laws.Least.{least-map}
use Rattle.model.proofs.Laws.NodeDistance.{node-distance}

-- walks of one kind or of another
abbrev pub Either : (ℕ → Type 0) → (ℕ → Type 0) → ℕ → Type 0
Either A B n = A n ⊎ B n

-- for every walk of the first kind there is one of the second that is no longer
abbrev pub Matched : (ℕ → Type 0) → (ℕ → Type 0) → Type 0
Matched A B = (n : ℕ) → A n → (m : ℕ) × B m × (m ≤ n)

-- the least over two kinds is the lesser of their least
pub least-either : {A B : ℕ → Type 0} {d e : Distance} → IsLeast A d → IsLeast B e → IsLeast (Either A B) (least d e)
unfolding least
least-either {A} {B} (attained {m = m} a low) (attained {m = n} b low') = attained shorter above
  where
    shorter : Either A B (min m n)
    shorter = min_cases m n (Either A B (min m n)) (λ h e. inl (rw e a)) (λ h e. inr (rw e b))

    above : (k : ℕ) → Either A B k → min m n ≤ k
    above k (inl a') = omega (arith, low k a')
    above k (inr b') = omega (arith, low' k b')
least-either (attained a low) (no_walk never) = attained (inl a) (λ k. ⊎_elim (low k) (λ b. absurd (never k b)))
least-either (no_walk never) (attained b low) = attained (inr b) (λ k. ⊎_elim (λ a. absurd (never k a)) (low k))
least-either (no_walk never) (no_walk never') = no_walk (λ k. ⊎_elim (never k) (never' k))

-- kinds of walks that match each other have the same least
pub least-matched : {A B : ℕ → Type 0} {d : Distance} → IsLeast A d → Matched A B → Matched B A → IsLeast B d
least-matched {A} {B} (attained {m = m} a low) f g = attained (subst B (equal (f m a)) (f m a).1) above
  where
    above : (n : ℕ) → B n → m ≤ n
    above n b = omega (arith, low (g n b).0 (g n b).1, (g n b).2)

    equal : (w : (n : ℕ) × B n × (n ≤ m)) → w.0 ≡ m
    equal w = omega (arith, above w.0 w.1, w.2)
least-matched (no_walk never) f g = no_walk (λ n b. never (g n b).0 (g n b).1)

-- a walk from one of a list of ends to one of another, with the gaps at both
pub data EndWalk (net : Network) (xs ys : List End) (n : ℕ) : Type 0 where
  from-to : {a b : End} {k : ℕ} → Memᴰ a xs → Memᴰ b ys → Walk net a.at b.at k → a.gap + k + b.gap ≡ n → EndWalk net xs ys n

-- from no end there is no walk, and to no end
end-walk-from-none : {net : Network} {ys : List End} {n : ℕ} → EndWalk net [] ys n → ⊥
end-walk-from-none (from-to a b w e) = Memᴰ.not-nil a

end-walk-to-none : {net : Network} {xs : List End} {n : ℕ} → EndWalk net xs [] n → ⊥
end-walk-to-none (from-to a b w e) = Memᴰ.not-nil b

-- more ends to choose from keep a walk
end-walk-more : {net : Network} {xs ys xs' ys' : List End} → ((a : End) → Memᴰ a xs → Memᴰ a xs') → ((b : End) → Memᴰ b ys → Memᴰ b ys') → (n : ℕ) → EndWalk net xs ys n → EndWalk net xs' ys' n
end-walk-more f g n (from-to {a = a} {b = b} x y w e) = from-to (f a x) (g b y) w e

-- the first of a list of ends by itself
only-head : {a : End} {xs : List End} (x : End) → Memᴰ x (a ∷ []) → Memᴰ x (a ∷ xs)
only-head x m = Memᴰ.head (Memᴰ.eq_of_singleton m)

-- a walk from the first of the ends or from the others
end-walk-from : {net : Network} {a : End} {xs ys : List End} (n : ℕ) → EndWalk net (a ∷ xs) ys n → Either (EndWalk net (a ∷ []) ys) (EndWalk net xs ys) n
end-walk-from n (from-to x y w e) = ⊎_elim (λ h. inl (from-to (Memᴰ.head h) y w e)) (λ t. inr (from-to t y w e)) (Memᴰ.cases_cons x)

-- a walk to the first of the ends or to the others
end-walk-to : {net : Network} {b : End} {xs ys : List End} (n : ℕ) → EndWalk net xs (b ∷ ys) n → Either (EndWalk net xs (b ∷ [])) (EndWalk net xs ys) n
end-walk-to n (from-to x y w e) = ⊎_elim (λ h. inl (from-to x (Memᴰ.head h) w e)) (λ t. inr (from-to x t w e)) (Memᴰ.cases_cons y)

-- a walk from one end to one other, taken apart
end-walk-one : {net : Network} {a b : End} {n : ℕ} → EndWalk net (a ∷ []) (b ∷ []) n → (k : ℕ) × Walk net a.at b.at k × (a.gap + k + b.gap ≡ n)
end-walk-one (from-to {k = k} x y w e) = rw (← Memᴰ.eq_of_singleton x, ← Memᴰ.eq_of_singleton y) (k, w, e)

-- between two ends the shortest way is the gaps and the node distance
route-gaps : {net : Network} {a b : End} {d : Distance} → IsLeast (Walk net a.at b.at) d → IsLeast (EndWalk net (a ∷ []) (b ∷ [])) (plus (plus (metres a.gap) d) (metres b.gap))
unfolding plus
route-gaps {net} {a} {b} (attained {m = m} w low) = attained (from-to (Memᴰ.head refl) (Memᴰ.head refl) w refl) above
  where
    above : (n : ℕ) → EndWalk net (a ∷ []) (b ∷ []) n → a.gap + m + b.gap ≤ n
    above n e = let (k, v, g) = end-walk-one e in omega (arith, low k v)
route-gaps (no_walk never) = no_walk (λ n e. never (end-walk-one e).0 (end-walk-one e).1)

-- from one end to a choice of ends
routes-from : (net : Network) → EndsAreNodes net → (a : End) (ys : List End) → IsLeast (EndWalk net (a ∷ []) ys) (least_of (map (route net a) ys))
unfolding least_of route
routes-from net nodes a [] = no_walk (λ n. end-walk-to-none)
routes-from net nodes a (b ∷ ys) =
    least-map
    (λ n. ⊎_elim (end-walk-more (λ x m. m) only-head n) (end-walk-more (λ x m. m) (λ y m. Memᴰ.tail m) n))
    end-walk-to
    (least-either (route-gaps (node-distance net nodes a.at b.at)) (routes-from net nodes a ys))

-- from a choice of ends to a choice of ends
pub routes-least : (net : Network) → EndsAreNodes net → (xs ys : List End) → IsLeast (EndWalk net xs ys) (routes net xs ys)
unfolding routes
routes-least net nodes [] ys = no_walk (λ n. end-walk-from-none)
routes-least net nodes (a ∷ xs) ys =
    least-map
    (λ n. ⊎_elim (end-walk-more only-head (λ y m. m) n) (end-walk-more (λ x m. Memᴰ.tail m) (λ y m. m) n))
    end-walk-from
    (least-either (routes-from net nodes a ys) (routes-least net nodes xs ys))
