-- Distances as their metres.
use Rattle.std.proofs.Common.{◌≡◌, ◌∙◌, refl, ap, ap₂, ℕ, zero, suc, ◌≤◌, arith, Option}
use Rattle.std.specs.Option.{IfSome}
use Rattle.model.proofs.Laws.Codes.{decode-code}
use Rattle.model.specs.Distance.{Distance, metres, none, least, plus, code, decode}
use Rattle.between.specs.Answers.{metres_of}
use Rattle.between.specs.Metres.{distance_of}

-- the metres stand for the distance that they were taken from
distance-metres : (d : Distance) → distance_of (metres_of d) ≡ d
unfolding distance_of metres_of
distance-metres none = refl
distance-metres (metres n) = refl

-- the lesser of two distances, and a distance with its gaps, on their metres
pub lesser-is : {r a b : Option ℕ} (d e : Distance) → a ≡ metres_of d → b ≡ metres_of e → r ≡ metres_of (least (distance_of a) (distance_of b)) → r ≡ metres_of (least d e)
lesser-is d e p q h = h ∙ ap₂ (λ x y. metres_of (least x y)) (ap distance_of p ∙ distance-metres d) (ap distance_of q ∙ distance-metres e)

pub route-is : {r o : Option ℕ} (near far : ℕ) (d : Distance) → o ≡ metres_of d → r ≡ metres_of (plus (plus (metres near) (distance_of o)) (metres far)) → r ≡ metres_of (plus (plus (metres near) d) (metres far))
route-is near far d p h = h ∙ ap (λ x. metres_of (plus (plus (metres near) x) (metres far))) (ap distance_of p ∙ distance-metres d)

-- the metres of an entry that is the code of a distance
pub metres-is : {o : Option ℕ} {entry : ℕ} (d : Distance) → o ≡ metres_of (decode entry) → entry ≡ code d → o ≡ metres_of d
metres-is d p e = p ∙ ap (λ n. metres_of (decode n)) e ∙ ap metres_of (decode-code d)

-- an entry of at most m + 1 stands for at most m metres
pub entry-small : (n m : ℕ) → n ≤ suc m → IfSome (metres_of (decode n)) (λ k. k ≤ m)
unfolding metres_of decode
entry-small zero m h = tt
entry-small (suc n) m h = omega arith
