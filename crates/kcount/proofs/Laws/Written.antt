-- What was written is a front of the bytes, and one more write goes on behind it.
use Rattle.std.proofs.Common.{◌≡◌, ℕ, ◌+◌, ◌-◌, List, ◌++◌, sym, ap, ◌∙◌, subst, arith, length, take, drop, take_all, length-drop, Option}
use Rattle.std.proofs.Math.Seq.{take-add}
use Rattle.std.proofs.KnownBytes.{Appends-trans, Appends-kept}
use Rattle.std.specs.Io.KnownBytes.{Appends, Keeps}

module _ (bytes : List ℕ) (from : ℕ) (a b c : Option (List ℕ)) (front : Appends a b (take from bytes)) where
  pub written-more : (count done : ℕ) → done ≡ from + count → Appends b c (take count (take (length bytes - from) (drop from bytes))) → Appends a c (take done bytes)
  written-more count done e more =
      let whole : take (length bytes - from) (drop from bytes) ≡ drop from bytes = take_all (length bytes - from) (drop from bytes) (omega (arith, length-drop from bytes)) in
      let joined : take from bytes ++ take count (take (length bytes - from) (drop from bytes)) ≡ take done bytes =
      ap (λ l. take from bytes ++ take count l) whole ∙ sym (take-add from count bytes) ∙ ap (λ n. take n bytes) (sym e) in
      subst (λ l. Appends a c l) joined (Appends-trans a b c _ _ front more)

  pub written-kept : (done : ℕ) → done ≡ from → Keeps b c → Appends a c (take done bytes)
  written-kept done e kept = subst (λ l. Appends a c l) (ap (λ n. take n bytes) (sym e)) (Appends-kept a b c _ front kept)
