-- A reading in which every line is taken.
use mathlib.Core.Bool.{Bool, true}
use mathlib.Core.List.{List, [], ◌∷◌, ◌++◌, map, append-nil}
use mathlib.Core.Path.{◌≡◌, refl, sym, ap, ◌∙◌}
use Prim.Native.Nat.{ℕ, suc}
use lib.Seq.{append_snoc}
use Rattle.model.specs.declared.refusal.Fault.{Fault}
use Rattle.text.specs.Reading.{Step, taken, read, read_lines, next, require}

module _ {State : Type 0} where
  -- a test that holds hands on to the next
  pub holds : (fault : Fault) {good : Bool} {onward to : Step State} → good ≡ true → onward ≡ to → require good fault onward ≡ to
  unfolding require
  holds fault e on = rw e on

  -- behind a line that is taken the reading goes on
  pub goes_on : (step : State → List ℕ → Step State) (place : ℕ) {s s' : State} (line : List ℕ) (more : List (List ℕ)) → step s line ≡ taken s' → read_lines step place s (line ∷ more) ≡ read_lines step (suc place) s' more
  unfolding read_lines next
  goes_on step place line more e = rw e

  -- rows each of which is taken behind those before it are all read
  pub rows-read : {A : Type 0} (step : State → List ℕ → Step State) (state : List A → State) (line : A → List ℕ) (all : List A)
      → ((before : List A) (a : A) (rest : List A) → all ≡ before ++ (a ∷ rest) → step (state before) (line a) ≡ taken (state (before ++ (a ∷ []))))
      → (place : ℕ) → read_lines step place (state []) (map line all) ≡ read (state all)
  unfolding read_lines
  rows-read {A} step state line all each place = go all [] refl place
    where
      go : (rest before : List A) → all ≡ before ++ rest → (place : ℕ) → read_lines step place (state before) (map line rest) ≡ read (state all)
      go [] before e place = ap (λ (l : List A). read (state l)) (sym (e ∙ append-nil before))
      go (a ∷ rest) before e place =
          goes_on step place (line a) (map line rest) (each before a rest e)
          ∙ go rest (before ++ (a ∷ [])) (e ∙ sym (append_snoc before a rest)) (suc place)
