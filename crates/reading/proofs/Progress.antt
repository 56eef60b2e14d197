-- A loop over the lines of a text: what is left to read from where the loop stands comes to what the whole text comes to.
use mathlib.Core.List.{List, [], ◌∷◌}
use mathlib.Core.Path.{◌≡◌, refl, sym, ap, ◌∙◌}
use Prim.Native.Nat.{ℕ, suc, ◌+◌, ◌-◌, ◌≤◌, ◌<◌}
use native.Mathlib.Omega.{arith}
use lib.ListN.{length, take, drop, length-drop, drop_of_length-le}
use lib.Seq.{drop-drop, take_all, length-take-le}
use Rattle.model.specs.declared.refusal.Fault.{Fault}
use Rattle.text.proofs.Laws.Lines.{NextLine}
use Rattle.text.specs.Reading.{Step, taken, refused, read, refused_at, next, read_lines}

-- Two steps that agree on every line read alike.
pub read_alike : {State : Type 0} (f g : State → List ℕ → Step State) → ((s : State) (line : List ℕ) → f s line ≡ g s line) → (place : ℕ) (s : State) (lines : List (List ℕ)) → read_lines f place s lines ≡ read_lines g place s lines
unfolding read_lines next
read_alike f g alike place s [] = refl
read_alike {State} f g alike place s (line ∷ more) = rw (alike s line) (by (g s line) (λ s'. read_alike f g alike (suc place) s' more))
  where
    by : (t : Step State) → ((s' : State) → read_lines f (suc place) s' more ≡ read_lines g (suc place) s' more) → next t place (λ s'. read_lines f (suc place) s' more) ≡ next t place (λ s'. read_lines g (suc place) s' more)
    by (taken s') same = same s'
    by (refused fault) same = refl

-- the rest of a text from a byte on, as a part that is lent
abbrev pub rest : List ℕ → ℕ → List ℕ
rest text at = take (length text - at) (drop at text)

pub rest-is : (text : List ℕ) (at : ℕ) → rest text at ≡ drop at text
rest-is text at = take_all (length text - at) (drop at text) (omega (arith, length-drop at text))

-- How the text parts into lines, the step of a line, the first line's number, the state before it, and the text are fixed.
module _ {State : Type 0} (lines : List ℕ → List (List ℕ)) (step : State → List ℕ → Step State) (first : ℕ) (start : State) (text : List ℕ) where
  -- the loop stands at a byte, before the line of number place, with what was read so far
  pub record Progress (s : State) (at place : ℕ) : Type 0 where
    pub within : at ≤ length text
    pub same : read_lines step place s (lines (drop at text)) ≡ read_lines step first start (lines text)
    pub placed : place + length (lines (drop at text)) ≡ first + length (lines text)
    pub small : place ≤ first + at

  -- it does so where the loop begins
  pub begins : Progress start 0 first
  begins = record { within = omega arith; same = refl; placed = refl; small = omega arith }

-- From where the loop stands.
module _ {State : Type 0} {lines : List ℕ → List (List ℕ)} {step : State → List ℕ → Step State} {first : ℕ} {start : State} {text : List ℕ} {s : State} {at place : ℕ} (p : Progress lines step first start text s at place) where
  -- A line that begins at a byte of the text.
  module _ {end onward : ℕ} (h : at < length text) (n : NextLine lines (rest text at) end onward) where
    some_left : 1 ≤ length (rest text at)
    some_left = omega (arith, ap length (rest-is text at), length-drop at text)

    -- the next line begins further on, within the text
    further : (1 ≤ onward) × (at + onward ≤ length text)
    further = (n.onward some_left, omega (arith, n.inside, ap length (rest-is text at), length-drop at text))

    -- the lines left where the next line begins
    left : lines (drop at text) ≡ take end (rest text at) ∷ lines (drop (at + onward) text)
    left = ap lines (sym (rest-is text at)) ∙ n.parts some_left ∙ rw (rest-is text at, drop-drop)

    -- the line is taken
    pub goes_on : {s' : State} {place' : ℕ} → step s (take end (rest text at)) ≡ taken s' → place' ≡ suc place → Progress lines step first start text s' (at + onward) place'
    unfolding read_lines next
    goes_on t e =
        record {
          within = further.1;
          same = rw e (sym (ap (read_lines step place s) left ∙ rw t) ∙ p.same);
          placed = omega (arith, p.placed, ap length left);
          small = omega (arith, p.small, further.0);
        }

    -- the line is refused: the reading ends at its place
    pub stops : {fault : Fault} → step s (take end (rest text at)) ≡ refused fault → read_lines step first start (lines text) ≡ refused_at fault place
    unfolding read_lines next
    stops t = sym p.same ∙ ap (read_lines step place s) left ∙ rw t

    -- less of the text is left
    pub less-left : length text - (at + onward) < length text - at
    less-left = omega (arith, further.0, further.1)

    -- the line is as long as was found
    pub line-long : end ≡ length (take end (rest text at))
    line-long = sym (length-take-le end (rest text at) (omega (arith, n.ordered, n.inside)))

  -- At the end of the text no line is left.
  module _ (none : lines [] ≡ []) (end : length text ≤ at) where
    nothing : lines (drop at text) ≡ []
    nothing = rw (drop_of_length-le text end) none

    -- all are read
    pub all_read : read_lines step first start (lines text) ≡ read s
    unfolding read_lines
    all_read = sym p.same ∙ ap (read_lines step place s) nothing

    -- and the place is one behind the last
    pub end-place : first + length (lines text) ≡ place
    end-place = omega (arith, p.placed, ap length nothing)
