-- Arcs two by two: the arcs that a list of edges stands for.
use mathlib.Core.Bool.{Bool, ◌&&◌}
use mathlib.Core.List.{List, [], ◌∷◌, ◌++◌}
use mathlib.Core.Path.{◌≡◌, refl, sym, ap, ◌∙◌}
use Prim.Native.Nat.{ℕ, zero, suc, ◌*◌, ◌<◌}
use native.Mathlib.Omega.{arith}
use lib.Dec.{eqb}
use lib.ListN.{length, take, set, get_or, length-set}
use lib.Seq.{take-suc, get_or-set_same}
use Rattle.text.specs.NetworkText.{ArcRead, turns_last, every_other, arc, turned, both_ways}

-- twice one more
pub two-more : (k : ℕ) → 2 * suc k ≡ suc (suc (2 * k))
two-more k = omega arith

abbrev pub no-arc : ArcRead
no-arc = arc 0 0 0

-- two arcs for each edge
pub both-length : (es : List ArcRead) → length (both_ways es) ≡ 2 * length es
unfolding both_ways
both-length [] = refl
both-length (e ∷ es) = ap (λ (n : ℕ). suc (suc n)) (both-length es) ∙ sym (two-more (length es))

-- first the edge itself
pub both-even : (es : List ArcRead) (k : ℕ) (d : ArcRead) → k < length es → get_or (both_ways es) (2 * k) d ≡ get_or es k d
unfolding both_ways
both-even [] k d h = absurd (omega arith)
both-even (e ∷ es) zero d h = refl
both-even (e ∷ es) (suc k) d h = rw (two-more k) (both-even es k d (omega arith))

-- then the edge turned round
pub both-odd : (es : List ArcRead) (k : ℕ) (d : ArcRead) → k < length es → get_or (both_ways es) (suc (2 * k)) d ≡ turned (get_or es k d)
unfolding both_ways
both-odd [] k d h = absurd (omega arith)
both-odd (e ∷ es) zero d h = refl
both-odd (e ∷ es) (suc k) d h = rw (two-more k) (both-odd es k d (omega arith))

-- a store at an edge leaves the arcs of those before it
both-before : (es : List ArcRead) (k : ℕ) (e : ArcRead) → take (2 * k) (both_ways (set es k e)) ≡ take (2 * k) (both_ways es)
unfolding both_ways
both-before [] k e = refl
both-before (f ∷ es) zero e = refl
both-before (f ∷ es) (suc k) e = rw (two-more k) (ap (λ (l : List ArcRead). f ∷ turned f ∷ l) (both-before es k e))

-- every other arc is an edge again
pub every-other : (k : ℕ) (es : List ArcRead) → every_other (take (2 * k) (both_ways es)) ≡ take k es
unfolding both_ways every_other
every-other zero es = refl
every-other (suc k) [] = rw (two-more k)
every-other (suc k) (e ∷ es) = rw (two-more k) (ap (λ (l : List ArcRead). e ∷ l) (every-other k es))

-- an edge stored behind k others is one arc more
pub edge-stored : (es : List ArcRead) (k : ℕ) (e : ArcRead) → k < length es → take (suc (2 * k)) (both_ways (set es k e)) ≡ take (2 * k) (both_ways es) ++ (e ∷ [])
edge-stored es k e h =
    take-suc (both_ways (set es k e)) (2 * k) no-arc (omega (arith, both-length (set es k e), length-set es k e))
    ∙ rw (both-before es k e, both-even (set es k e) k no-arc (omega (arith, length-set es k e)), get_or-set_same es k e no-arc h)

-- behind an edge's first arc its second comes
pub second-follows : (es : List ArcRead) (k : ℕ) → k < length es → take (suc (suc (2 * k))) (both_ways es) ≡ take (suc (2 * k)) (both_ways es) ++ (turned (get_or es k no-arc) ∷ [])
second-follows es k h =
    take-suc (both_ways es) (suc (2 * k)) no-arc (omega (arith, both-length es))
    ∙ rw (both-odd es k no-arc h)

-- one arc is another turned round
unfoldable pub is_turned_of : ArcRead → ArcRead → Bool
is_turned_of a b = eqb a.from b.to && (eqb a.to b.from && eqb a.weight b.weight)

-- the last arc of a list is the one put behind it
last_snoc : (xs : List ArcRead) (a b : ArcRead) → turns_last (xs ++ (a ∷ [])) b ≡ is_turned_of a b
unfolding turns_last is_turned_of
last_snoc [] a b = refl
last_snoc (x ∷ []) a b = refl
last_snoc (x ∷ x' ∷ xs) a b = last_snoc (x' ∷ xs) a b

-- of an odd number of arcs the last is an edge's first
pub last_is : (es : List ArcRead) (k : ℕ) (b : ArcRead) → k < length es → turns_last (take (suc (2 * k)) (both_ways es)) b ≡ is_turned_of (get_or es k no-arc) b
last_is es k b h =
    ap (λ (l : List ArcRead). turns_last l b)
    (take-suc (both_ways es) (2 * k) no-arc (omega (arith, both-length es)) ∙ rw (both-even es k no-arc h))
    ∙ last_snoc (take (2 * k) (both_ways es)) (get_or es k no-arc) b
