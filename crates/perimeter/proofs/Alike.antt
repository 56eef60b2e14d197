-- Distances that differ only beyond the radius: at exactly the radius lie the same ones.
use mathlib.Core.Path.{◌≡◌, sym, ap, ap₂, ◌∙◌}
use Prim.Native.Nat.{ℕ}
use native.Mathlib.Omega.{arith}
use Rattle.model.specs.Distance.{Distance, metres, least, plus, exactly, bounded}
use Rattle.model.proofs.Laws.Within.{exactly-bounded, bounded-twice, bounded-least, bounded-plus-right}
use Rattle.perimeter.specs.Reach.{by_ends_of}

-- the same up to the bound
abbrev pub Alike : ℕ → Distance → Distance → Type 0
Alike t d e = bounded t d ≡ bounded t e

-- a bounded distance is alike
pub alike-bounded : (t : ℕ) (d : Distance) → Alike t (bounded t d) d
alike-bounded t d = bounded-twice d (omega arith)

-- the lesser of two, and a distance after some metres
pub alike-least : (t : ℕ) (d e d' e' : Distance) → Alike t d d' → Alike t e e' → Alike t (least d e) (least d' e')
alike-least t d e d' e' p q = bounded-least t d e ∙ ap₂ least p q ∙ sym (bounded-least t d' e')

pub alike-after : (t gap : ℕ) (d e : Distance) → Alike t d e → Alike t (plus (metres gap) d) (plus (metres gap) e)
alike-after t gap d e p =
    sym (bounded-plus-right t (metres gap) d) ∙ ap (λ x. bounded t (plus (metres gap) x)) p ∙ bounded-plus-right t (metres gap) e

-- by two ends
pub alike-by-ends : (t gap1 gap2 : ℕ) (d e d' e' : Distance) → Alike t d d' → Alike t e e' → Alike t (by_ends_of gap1 gap2 d e) (by_ends_of gap1 gap2 d' e')
unfolding by_ends_of
alike-by-ends t gap1 gap2 d e d' e' p q = alike-least t _ _ _ _ (alike-after t gap1 d d' p) (alike-after t gap2 e e' q)

-- the test at the bound itself is the same
pub alike-exactly : (t : ℕ) (d e : Distance) → Alike t d e → exactly d t ≡ exactly e t
alike-exactly t d e p =
    sym (exactly-bounded d (omega arith)) ∙ ap (λ x. exactly x t) p ∙ exactly-bounded e (omega arith)
