-- What `map_err` says of the result before it: a value stays, an error became the other one. Then the same of `ok_or`.
use mathlib.Core.Path.{◌≡◌, refl}
use Prim.Native.Nat.{ℕ}
use native.Mathlib.Omega.{arith}
use Rattle.std.specs.Prelude.{Option, Some, None, Result, Ok, Err}
use Rattle.std.specs.Option.{ok_or}
use Rattle.std.specs.Result.{MatchResult, IsErrAnd}
use Rattle.std.proofs.lemmas.Result.{err_from_is_err_and}

module _ {T E D : Type 0} (r : Result T E) (m : Result T D) (Q : E → D → Type 0) (cases : MatchResult r (λ x. m ≡ Ok x) (λ e. IsErrAnd m (Q e))) where
  pub value-kept : {x : T} → m ≡ Ok x → r ≡ Ok x
  value-kept {x} is = by r refl cases
    where
      by : (s : Result T E) → r ≡ s → MatchResult s (λ x. m ≡ Ok x) (λ e. IsErrAnd m (Q e)) → r ≡ Ok x
      by (Ok v) e c = cc
      by (Err d) e c = let p = err_from_is_err_and m c in absurd (let z : ◌≡◌ {A = ℕ} 0 1 = cc (p.1, is) in omega arith)

  pub error-mapped : {y : D} → m ≡ Err y → (e : E) × (r ≡ Err e) × Q e y
  error-mapped {y} is = by r refl cases
    where
      by : (s : Result T E) → r ≡ s → MatchResult s (λ x. m ≡ Ok x) (λ e. IsErrAnd m (Q e)) → (e : E) × (r ≡ Err e) × Q e y
      by (Ok v) e c = absurd (let z : ◌≡◌ {A = ℕ} 0 1 = cc in omega arith)
      by (Err d) e c = let p = err_from_is_err_and m c in let same : p.0 ≡ y = cc (p.1, is) in (d, e, rw (← same) p.2)

-- what `ok_or` says of the option before it, where it answers the error
pub none_there : {T E : Type 0} (o : Option T) (error : E) {y : E} → ok_or o error ≡ Err y → (o ≡ None) × (y ≡ error)
none_there (Some v) error e = absurd (let z : ◌≡◌ {A = ℕ} 0 1 = cc in omega arith)
none_there None error e = (refl, cc)
