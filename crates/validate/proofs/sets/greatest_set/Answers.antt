use Rattle.std.proofs.Common.{◌≡◌, ℕ, Option, Some, None, List, [], ◌∷◌, max, fold, sym, ◌∙◌, ap, refl, arith}
use Rattle.std.specs.List.{reduce}
use Rattle.std.specs.Option.{unwrap_or, option_map}
use Rattle.std.proofs.lemmas.Iterator.{YieldsList-from_slice}
use Rattle.std.proofs.lemmas.Iterator.Consumers.{YieldsList-from_copied, max_from_yields_List}
use Rattle.model.specs.Events.{greatest_set_of}
use Rattle.validate.proofs.sets.greatest_set.Goals as goal

-- the greatest of a number and of a list behind it
greatest-fold : (m : ℕ) (ts : List ℕ) → fold max m ts ≡ max m (greatest_set_of ts)
unfolding greatest_set_of
greatest-fold m [] = omega arith
greatest-fold m (t ∷ ts) = greatest-fold (max m t) ts ∙ omega arith

-- the greatest of a list, 0 of none
greatest-reduce : (ts : List ℕ) → unwrap_or (reduce max ts) 0 ≡ greatest_set_of ts
unfolding greatest_set_of
greatest-reduce [] = refl
greatest-reduce (t ∷ ts) = greatest-fold t ts

same-option : (o : Option ℕ) → option_map (λ x. x) o ≡ o
same-option (Some x) = refl
same-option None = refl

pub returns : goal.returns
returns c =
    let sets = c.args.sets.now in
    let found = max_from_yields_List {v = λ x. x} {all = sets} c.copied.result c.max.result c.max.ensures.ran (YieldsList-from_copied (YieldsList-from_slice sets cc)) in
    c.unwrap_or.ensures ∙ ap (λ (o : Option ℕ). unwrap_or o 0) (sym (same-option c.max.result) ∙ found) ∙ greatest-reduce sets
