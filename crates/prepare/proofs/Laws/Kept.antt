-- Entries behind what is put into a list are kept: through stores, through parts that are lent, and from one state to a later one.
use mathlib.Core.List.{List, ◌++◌}
use mathlib.Core.Path.{◌≡◌, refl, sym, ap, ◌∙◌}
use Prim.Native.Nat.{ℕ, ◌+◌, ◌-◌, ◌≤◌, ◌<◌}
use native.Mathlib.Omega.{arith}
use lib.ListN.{length, take, drop, set, take-append-drop}
use lib.Seq.{length-take-le, drop-append-le, drop-append-add, drop_at, drop-drop, drop-set-lt}
use borrow.Rule.Slice.PartMut.{put_mid}
use Rattle.model.proofs.Laws.Pieces.{part_length}
use Rattle.prepare.specs.Prepared.{KeptFrom}

pub kept-all : (n : ℕ) (l : List ℕ) → KeptFrom n l l
kept-all n l = record { kept = refl }

-- from a later place on too
pub kept-later : {n : ℕ} {old new : List ℕ} (m : ℕ) → n ≤ m → KeptFrom n old new → KeptFrom m old new
kept-later {n} {old} {new} m h k =
    let whole : n + (m - n) ≡ m = omega arith in
    record {
      kept = ap (λ (i : ℕ). drop i new) (sym whole)
          ∙ sym (drop-drop (m - n) n new)
          ∙ ap (drop (m - n)) k.kept
          ∙ drop-drop (m - n) n old
          ∙ ap (λ (i : ℕ). drop i old) whole;
    }

-- by one step and by the next
pub kept_then : {n : ℕ} {old mid new : List ℕ} → KeptFrom n old mid → KeptFrom n mid new → KeptFrom n old new
kept_then a b = record { kept = b.kept ∙ a.kept }

-- a store in front of them
pub kept_set : {n : ℕ} {old new : List ℕ} (i v : ℕ) → i < n → KeptFrom n old new → KeptFrom n old (set new i v)
kept_set {n} {old} {new} i v h k = record { kept = drop-set-lt n new i v h ∙ k.kept }

-- a front that was lent and has come back
pub kept-front : {n : ℕ} {old new : List ℕ} (front : List ℕ) → n ≤ length new → length front ≡ length (take n new) → KeptFrom n old new → KeptFrom n old (front ++ drop n new)
kept-front {n} {new = new} front h e k = record { kept = drop_at front (drop n new) n (e ∙ length-take-le n new h) ∙ k.kept }

-- a part from place a on that was lent and has come back with its entries from n on kept
kept-part : {n : ℕ} (a m : ℕ) (l : List ℕ) {part : List ℕ} → a ≤ length l → length part ≡ length (take m (drop a l)) → n ≤ length part → KeptFrom n (take m (drop a l)) part → KeptFrom (a + n) l (put_mid a m l part)
kept-part {n} a m l {part} h long room k =
    let front : length (take a l) ≡ a = length-take-le a l h in
    record {
      kept = ap (λ (i : ℕ). drop (i + n) (take a l ++ (part ++ drop m (drop a l)))) (sym front)
          ∙ drop-append-add (take a l) (part ++ drop m (drop a l)) n
          ∙ drop-append-le n part (drop m (drop a l)) room
          ∙ ap (λ (p : List ℕ). p ++ drop m (drop a l)) k.kept
          ∙ sym (drop-append-le n (take m (drop a l)) (drop m (drop a l)) (omega arith))
          ∙ ap (drop n) (take-append-drop m (drop a l))
          ∙ drop-drop n a l;
    }

-- the part that begins where all before is kept, to the end of the list
pub part-behind : (a n : ℕ) (l : List ℕ) {old part : List ℕ} → a + n ≤ length l → length part ≡ length (take (length l - a) (drop a l)) → KeptFrom a old l → KeptFrom n (take (length l - a) (drop a l)) part → KeptFrom (a + n) old (put_mid a (length l - a) l part)
part-behind a n l h long so_far k =
    kept_then (kept-later (a + n) (omega arith) so_far)
    (kept-part a (length l - a) l (omega arith) long (omega (arith, long, part_length a (length l) l (omega arith))) k)
