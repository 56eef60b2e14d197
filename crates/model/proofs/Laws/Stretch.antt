-- In a list laid out, what lies on one edge is one part: from where the lower edges end to where the edge itself ends.
use Rattle.model.specs.Refusal.{accepted}
use mathlib.Core.Bool.{Bool, true, false, cond, true≢false}
use mathlib.Core.List.{List, [], ◌∷◌}
use mathlib.Core.Path.{◌≡◌, ◌∙◌, refl, sym, ap, ap₂}
use Prim.Native.Nat.{ℕ, zero, suc, ◌+◌, ◌-◌, ◌≤◌, ◌<◌}
use native.Mathlib.Decide.{dec_lt, ℕ_discrete}
use native.Mathlib.Nat.{le_trans}
use native.Mathlib.Omega.{arith}
use borrow.Author.Tests.{lt-ltb, le-ltb, le-leb, lt-leb, eq-eqb, ne_eqb}
use lib.Dec.{leb, ltb, eqb}
use lib.ListN.{length, get_or, take, drop}
use Rattle.model.proofs.Laws.Cover.{none_pass}
use Rattle.model.proofs.Laws.Pieces.{part}
use Rattle.model.proofs.Laws.CheckParts.{order-accepted}
use Rattle.model.proofs.Laws.Refusal.{both-accepted}
use Rattle.model.specs.Checks.{laid_out_check}
use Rattle.model.specs.Counting.{count_if, one_if}
use Rattle.model.specs.Events.{Event, event, before, having, set_size}
use Rattle.model.specs.Network.{Network}

-- as much stands beside a number as it has entries
pub having-length : {A : Type 0} (s : ℕ) (sets : List ℕ) (xs : List A) → length sets ≡ length xs → length (having s sets xs) ≡ set_size sets s
unfolding having set_size count_if one_if
having-length s [] xs e = refl
having-length s (t ∷ sets) [] e = absurd (omega arith)
having-length s (t ∷ sets) (x ∷ xs) e = go (eqb t s) (having-length s sets xs (omega arith))
  where
    go : (b : Bool) → length (having s sets xs) ≡ set_size sets s → length (cond b (x ∷ having s sets xs) (having s sets xs)) ≡ one_if b + set_size sets s
    go true rest = omega arith
    go false rest = omega arith

-- the numbers of a list rise, equals allowed
abbrev pub Rise : List ℕ → Type 0
Rise es = (k j : ℕ) → k ≤ j → j < length es → get_or es k 0 ≤ get_or es j 0

-- how many edges come before e, and how many up to e
abbrev pub before-edge : ℕ → List ℕ → ℕ
before-edge e es = count_if (λ t. ltb t e) es

abbrev pub through-edge : ℕ → List ℕ → ℕ
through-edge e es = count_if (λ t. leb t e) es

-- from an edge on, no lower edge
none_before : (e : ℕ) (es : List ℕ) → ((k : ℕ) → k < length es → e ≤ get_or es k 0) → before-edge e es ≡ 0
none_before e es above = none_pass (λ t. ltb t e) es (λ k h. le-ltb (get_or es k 0) e (above k h))

-- past the edge, nothing of it
none-through : (e : ℕ) (es : List ℕ) → ((k : ℕ) → k < length es → e < get_or es k 0) → through-edge e es ≡ 0
none-through e es above = none_pass (λ t. leb t e) es (λ k h. lt-leb (get_or es k 0) e (above k h))

none-having : (e : ℕ) (es xs : List ℕ) → ((k : ℕ) → k < length es → e < get_or es k 0) → having e es xs ≡ []
unfolding having
none-having e [] xs above = refl
none-having e (t ∷ ts) [] above = refl
none-having e (t ∷ ts) (x ∷ xs) above =
    rw (ne_eqb t e (λ q. omega (arith, above 0 (omega arith)))) (none-having e ts xs (λ k h. above (suc k) (omega arith)))

part_at : (a b a' b' : ℕ) (xs : List ℕ) → a ≡ a' → b ≡ b' → part a b xs ≡ part a' b' xs
part_at a b a' b' xs p q = ap₂ (λ (a b : ℕ). part a b xs) p q

part-behind : (a b : ℕ) (x : ℕ) (xs : List ℕ) → part (suc a) (suc b) (x ∷ xs) ≡ part a b xs
part-behind a b x xs = ap (λ (n : ℕ). take n (drop a xs)) {x = suc b - suc a} {y = b - a} (omega arith)

part-front : (b : ℕ) (x : ℕ) (xs : List ℕ) → part 0 (suc b) (x ∷ xs) ≡ x ∷ part 0 b xs
part-front b x xs =
    ap (λ (n : ℕ). take n (x ∷ xs)) {x = suc b - 0} {y = suc b} (omega arith)
    ∙ ap (λ (n : ℕ). x ∷ take n xs) {x = b} {y = b - 0} (omega arith)

-- what lies on the edge is that part
pub having-part : (e : ℕ) (es xs : List ℕ) → length es ≡ length xs → Rise es → having e es xs ≡ part (before-edge e es) (through-edge e es) xs
unfolding count_if one_if having
having-part e [] xs same up = refl
having-part e (t ∷ ts) [] same up = absurd (short same)
  where
    short : suc (length ts) ≡ 0 → ⊥
    short q = omega arith
having-part e (t ∷ ts) (x ∷ xs) same up = go (dec_lt t e) (ℕ_discrete t e) (having-part e ts xs (omega arith) (λ k j l h. up (suc k) (suc j) (omega arith) (omega arith)))
  where
    from : (k : ℕ) → k < length ts → t ≤ get_or ts k 0
    from k h = up 0 (suc k) (omega arith) (omega arith)

    go : Dec (t < e) → Dec (t ≡ e) → having e ts xs ≡ part (before-edge e ts) (through-edge e ts) xs → cond (eqb t e) (x ∷ having e ts xs) (having e ts xs) ≡ part (one_if (ltb t e) + before-edge e ts) (one_if (leb t e) + through-edge e ts) (x ∷ xs)
    go (yes l) q ih =
        rw (ne_eqb t e (λ z. omega arith), lt-ltb t e l, le-leb t e (omega arith))
        (ih ∙ sym (part_at (1 + before-edge e ts) (1 + through-edge e ts) (suc (before-edge e ts)) (suc (through-edge e ts)) (x ∷ xs) (omega arith) (omega arith) ∙ part-behind (before-edge e ts) (through-edge e ts) x xs))
    go (no l) (yes q) ih =
        rw (eq-eqb t e q, le-ltb t e (omega arith), le-leb t e (omega arith))
        (ap (λ (r : List ℕ). x ∷ r) (ih ∙ part_at (before-edge e ts) (through-edge e ts) 0 (through-edge e ts) xs (none_before e ts (λ k h. omega (arith, from k h))) refl)
        ∙ sym (part_at (0 + before-edge e ts) (1 + through-edge e ts) 0 (suc (through-edge e ts)) (x ∷ xs) (omega (arith, none_before e ts (λ k h. omega (arith, from k h)))) (omega arith) ∙ part-front (through-edge e ts) x xs))
    go (no l) (no q) ih =
        rw (ne_eqb t e q, le-ltb t e (omega arith), lt-leb t e (omega arith))
        (none-having e ts xs (λ k h. omega (arith, from k h))
        ∙ sym (part_at (0 + before-edge e ts) (0 + through-edge e ts) 0 0 (x ∷ xs) (omega (arith, none_before e ts (λ k h. omega (arith, from k h)))) (omega (arith, none-through e ts (λ k h. omega (arith, from k h))))))

-- an edge that is not before another is no lower
edge-rises : (e f : Event) → before f e ≡ false → e.edge ≤ f.edge
unfolding before
edge-rises e f h = go (dec_lt f.edge e.edge)
  where
    go : Dec (f.edge < e.edge) → e.edge ≤ f.edge
    go (yes l) = absurd (true≢false (sym (rw (lt-ltb f.edge e.edge l)) ∙ h))
    go (no l) = omega arith

-- numbers of which none is below the one before it rise
pub rise-by-one : (es : List ℕ) → ((k : ℕ) → suc k < length es → get_or es k 0 ≤ get_or es (suc k) 0) → Rise es
rise-by-one es step k zero h l = rw (zero-if k h) (omega arith)
  where
    zero-if : (k : ℕ) → k ≤ 0 → k ≡ 0
    zero-if k h = omega arith
rise-by-one es step k (suc j) h l = go (ℕ_discrete k (suc j)) (λ m. rise-by-one es step k j m (omega arith))
  where
    go : Dec (k ≡ suc j) → (k ≤ j → get_or es k 0 ≤ get_or es j 0) → get_or es k 0 ≤ get_or es (suc j) 0
    go (yes e) ih = rw e (omega arith)
    go (no e) ih = le_trans (ih (omega arith)) (step j l)

-- the edges of a list accepted as laid out rise
pub laid-out-rise : (net : Network) (es xs : List ℕ) (edge : ℕ) → laid_out_check net es xs edge ≡ accepted → Rise es
unfolding laid_out_check
laid-out-rise net es xs edge h =
    let order = (both-accepted _ _ (both-accepted _ _ (both-accepted _ _ (both-accepted _ _ (both-accepted _ _ h).1).1).1).1).1 in
    rise-by-one es (λ k l. edge-rises (event (get_or es k 0) (get_or xs k 0)) (event (get_or es (suc k) 0) (get_or xs (suc k) 0)) (order-accepted es xs order k l))
