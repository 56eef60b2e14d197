-- What every line that is taken keeps holds of all that was read.
use mathlib.Core.List.{List, [], ◌∷◌, ◌++◌, map}
use mathlib.Core.Logic.{⊎_elim}
use mathlib.Core.Path.{◌≡◌, refl, sym, ap, subst, ◌∙◌}
use Prim.Native.Nat.{ℕ, suc, ◌≤◌, ◌<◌}
use native.Mathlib.Nat.{eq-or-lt_of_le}
use native.Mathlib.Omega.{arith}
use lib.ListN.{length, get_or, length-append, get_or-append, get_or-map}
use lib.Seq.{get_or-append_seam}
use Rattle.text.specs.Reading.{Step, taken, refused, read, next, read_lines}

module _ {State : Type 0} (step : State → List ℕ → Step State) (Good : State → Type 0) (keeps : (s : State) (line : List ℕ) (s' : State) → Good s → step s line ≡ taken s' → Good s') where
  pub all-kept : (place : ℕ) (s : State) (lines : List (List ℕ)) {s' : State} → Good s → read_lines step place s lines ≡ read s' → Good s'
  unfolding read_lines next
  all-kept place s [] {s'} g e = let same : s ≡ s' = cc in rw (← same) g
  all-kept place s (line ∷ more) {s'} g e = by (step s line) refl (λ t k. all-kept (suc place) t more k) e
    where
      by : (t : Step State) → step s line ≡ t → ((u : State) → Good u → read_lines step (suc place) u more ≡ read s' → Good s') → next t place (λ u. read_lines step (suc place) u more) ≡ read s' → Good s'
      by (taken u) is on f = on u (keeps s line u g is) f
      by (refused fault) is on f = absurd (let z : ◌≡◌ {A = ℕ} 0 1 = cc in omega arith)

-- what holds of each element of a list and of one more holds of each of the two together
pub each_snoc : {A : Type 0} (P : A → Type 0) (d : A) (xs : List A) (x : A) → ((k : ℕ) → k < length xs → P (get_or xs k d)) → P x → (k : ℕ) → k < length (xs ++ (x ∷ [])) → P (get_or (xs ++ (x ∷ [])) k d)
each_snoc P d xs x each one k h =
    let long : length (xs ++ (x ∷ [])) ≡ suc (length xs) = length-append xs (x ∷ []) ∙ omega arith in
    let up : k ≤ length xs = omega arith in
    ⊎_elim
    (λ e. subst P (sym (ap (λ (n : ℕ). get_or (xs ++ (x ∷ [])) n d) e ∙ get_or-append_seam xs x [] d)) one)
    (λ l. subst P (sym (get_or-append xs (x ∷ []) d k l)) (each k l))
    (eq-or-lt_of_le up)

-- what a part f of the records says at an index
pub at-index : {A : Type 0} (f : A → ℕ) (d : A) (xs : List A) → f d ≡ 0 → (k : ℕ) → get_or (map f xs) k 0 ≡ f (get_or xs k d)
at-index f d xs none k = ap (get_or (map f xs) k) (sym none) ∙ get_or-map f xs k d
