-- What was read of a file stands at the front of the list, and one more read goes on behind it.
use Rattle.std.proofs.Common.{◌≡◌, ℕ, ◌+◌, ◌≤◌, List, ◌++◌, sym, ap, ◌∙◌, subst, length, take, length-take-le, le_refl, Option}
use Rattle.std.proofs.lemmas.List.{take-append-le}
use Rattle.std.proofs.lemmas.Slice.{take-put_mid_below}
use Rattle.std.proofs.Math.Seq.{take-append-add}
use Rattle.std.proofs.KnownBytes.{Consumes-trans, Consumes-kept}
use Rattle.std.specs.Io.KnownBytes.{Consumes, Keeps}
use borrow.Rule.Slice.PartMut.{put_mid, post_of}

module _ (text part : List ℕ) (from room : ℕ) (inside : from ≤ length text) where
  take-put_more : (count : ℕ) → count ≤ length part → take (from + count) (put_mid from room text part) ≡ take from text ++ take count part
  take-put_more count fits =
      ap (λ n. take (n + count) (put_mid from room text part)) (sym (length-take-le from text inside))
      ∙ take-append-add (take from text) (part ++ post_of from room text) count
      ∙ ap (λ l. take from text ++ l) (take-append-le count part (post_of from room text) fits)

  -- a read that gave some bytes, and one that gave none
  module _ (a b c : Option (List ℕ)) (front : Consumes a b (take from text)) where
    pub front-more : (count done : ℕ) → count ≤ length part → done ≡ from + count → Consumes b c (take count part) → Consumes a c (take done (put_mid from room text part))
    front-more count done fits e more =
        subst (λ l. Consumes a c l) (sym (take-put_more count fits) ∙ ap (λ n. take n (put_mid from room text part)) (sym e)) (Consumes-trans a b c _ _ front more)

    pub front-kept : (done : ℕ) → done ≡ from → Keeps b c → Consumes a c (take done (put_mid from room text part))
    front-kept done e kept =
        subst (λ l. Consumes a c l) (sym (take-put_mid_below from room text part from (le_refl from) inside) ∙ ap (λ n. take n (put_mid from room text part)) (sym e)) (Consumes-kept a b c _ front kept)
