-- The lines of a text that was joined from lines are those lines.
use mathlib.Core.Bool.{Bool, true, false}
use mathlib.Core.List.{List, [], ◌∷◌, ◌++◌, map, append-nil}
use mathlib.Core.Path.{◌≡◌, refl, sym, ap, ◌∙◌}
use Prim.Native.Nat.{ℕ, ◌≤◌}
use native.Mathlib.Omega.{arith}
use lib.ListN.{length}
use Rattle.model.proofs.Laws.Refusal.{both_true}
use Rattle.text.specs.Lines.{line_feed, carriage_return, in_front, feed_lines, csv_lines}
use Rattle.text.specs.Lines.{line_end_of}
use Rattle.text.specs.Texts.{joined, lacks}
use Rattle.text.proofs.Laws.Lacking.{all_lack, first-other}

-- the last line of a text; of no lines an empty one
unfoldable pub last_line : List (List ℕ) → List ℕ
last_line [] = []
last_line (line ∷ []) = line
last_line (line ∷ next ∷ more) = last_line (next ∷ more)

-- a line that is read back with its end and without it: it lacks the end's first byte and holds another
pub record Plain (mark : ℕ) (line : List ℕ) : Type 0 where
  pub free : lacks mark line ≡ true
  pub some : 1 ≤ length line

-- lines that all are
pub data AllPlain (mark : ℕ) : List (List ℕ) → Type 0 where
  no_line : AllPlain mark []
  one_more : {line : List ℕ} {more : List (List ℕ)} → Plain mark line → AllPlain mark more → AllPlain mark (line ∷ more)

-- lines made one from each of a list
pub map-plain : {A : Type 0} (mark : ℕ) (line : A → List ℕ) → ((a : A) → Plain mark (line a)) → (all : List A) → AllPlain mark (map line all)
map-plain mark line each [] = no_line
map-plain mark line each (a ∷ more) = one_more (each a) (map-plain mark line each more)

-- they lack that byte
plain-free : {mark : ℕ} {all : List (List ℕ)} → AllPlain mark all → all_lack mark all ≡ true
unfolding all_lack
plain-free no_line = refl
plain-free (one_more p ps) = simp (p.free, plain-free ps)

-- and the last of some is not empty
plain-last : {mark : ℕ} (line : List ℕ) (more : List (List ℕ)) → Plain mark line → AllPlain mark more → 1 ≤ length (last_line (line ∷ more))
unfolding last_line
plain-last line [] p ps = p.some
plain-last line (next ∷ more) p (one_more q ps) = plain-last next more q ps

-- Lines of one kind: `mark` is the first byte of their end, which no line holds.
module _
    (lines : List ℕ → List (List ℕ)) (end : List ℕ) (mark : ℕ)
    (none : lines [] ≡ [])
    (ended : (line rest : List ℕ) → lacks mark line ≡ true → lines (line ++ (end ++ rest)) ≡ line ∷ lines rest)
    (alone : (line : List ℕ) → lacks mark line ≡ true → 1 ≤ length line → lines line ≡ line ∷ []) where
  -- joined lines are read back, also with no end behind the last of them where that one holds a byte
  joined-lines : (closed : Bool) (all : List (List ℕ)) → all_lack mark all ≡ true → (closed ≡ false → 1 ≤ length (last_line all)) → lines (joined end closed all) ≡ all
  unfolding joined all_lack last_line
  joined-lines closed [] free last = none
  joined-lines true (line ∷ []) free last =
      ap (λ (rest : List ℕ). lines (line ++ rest)) (sym (append-nil end))
      ∙ ended line [] (both_true (lacks mark line) true free).0
      ∙ ap (λ (more : List (List ℕ)). line ∷ more) none
  joined-lines false (line ∷ []) free last = ap lines (append-nil line) ∙ alone line (both_true (lacks mark line) true free).0 (last refl)
  joined-lines closed (line ∷ next ∷ more) free last =
      let both = both_true (lacks mark line) (all_lack mark (next ∷ more)) free in
      ended line (joined end closed (next ∷ more)) both.0
      ∙ ap (λ (rest : List (List ℕ)). line ∷ rest) (joined-lines closed (next ∷ more) both.1 last)

  -- so plain lines are, with the last end and without it
  joined-plain : (closed : Bool) {all : List (List ℕ)} → AllPlain mark all → lines (joined end closed all) ≡ all
  unfolding joined
  joined-plain closed no_line = none
  joined-plain closed (one_more {line = line} {more = more} p ps) =
      joined-lines closed (line ∷ more) (plain-free (one_more p ps)) (λ _. plain-last line more p ps)

-- a line and its line feed
feed-ended : (line rest : List ℕ) → lacks line_feed line ≡ true → feed_lines (line ++ (line_feed ∷ rest)) ≡ line ∷ feed_lines rest
unfolding feed_lines in_front
feed-ended [] rest free = refl
feed-ended (b ∷ bs) rest free =
    let other = first-other line_feed b bs free in
    simp (other.0, feed-ended bs rest other.1)

-- a line with no end
feed-alone : (line : List ℕ) → lacks line_feed line ≡ true → 1 ≤ length line → feed_lines line ≡ line ∷ []
unfolding feed_lines in_front
feed-alone [] free some = absurd (omega arith)
feed-alone (b ∷ []) free some = simp (first-other line_feed b [] free).0
feed-alone (b ∷ d ∷ bs) free some =
    let other = first-other line_feed b (d ∷ bs) free in
    simp (other.0, feed-alone (d ∷ bs) other.1 (omega arith))

-- a line, its carriage return and its line feed
csv-ended : (line rest : List ℕ) → lacks carriage_return line ≡ true → csv_lines (line ++ (line_end_of ++ rest)) ≡ line ∷ csv_lines rest
unfolding csv_lines in_front
csv-ended [] rest free = refl
csv-ended (b ∷ []) rest free = simp (first-other carriage_return b [] free).0
csv-ended (b ∷ d ∷ bs) rest free =
    let other = first-other carriage_return b (d ∷ bs) free in
    simp (other.0, csv-ended (d ∷ bs) rest other.1)

-- a line with no end
csv-alone : (line : List ℕ) → lacks carriage_return line ≡ true → 1 ≤ length line → csv_lines line ≡ line ∷ []
unfolding csv_lines in_front
csv-alone [] free some = absurd (omega arith)
csv-alone (b ∷ []) free some = refl
csv-alone (b ∷ d ∷ bs) free some =
    let other = first-other carriage_return b (d ∷ bs) free in
    simp (other.0, csv-alone (d ∷ bs) other.1 (omega arith))

-- lines ended by a line feed are read back
pub feed-lines : (closed : Bool) (all : List (List ℕ)) → all_lack line_feed all ≡ true → (closed ≡ false → 1 ≤ length (last_line all)) → feed_lines (joined (line_feed ∷ []) closed all) ≡ all
unfolding feed_lines
feed-lines = joined-lines feed_lines (line_feed ∷ []) line_feed refl feed-ended feed-alone

-- the same of plain lines, which nothing more is asked of
pub feed-plain : (closed : Bool) {all : List (List ℕ)} → AllPlain line_feed all → feed_lines (joined (line_feed ∷ []) closed all) ≡ all
unfolding feed_lines
feed-plain = joined-plain feed_lines (line_feed ∷ []) line_feed refl feed-ended feed-alone

-- so are lines ended by a carriage return and a line feed
pub csv-lines : (closed : Bool) (all : List (List ℕ)) → all_lack carriage_return all ≡ true → (closed ≡ false → 1 ≤ length (last_line all)) → csv_lines (joined line_end_of closed all) ≡ all
unfolding csv_lines
csv-lines = joined-lines csv_lines line_end_of carriage_return refl csv-ended csv-alone

-- the same of plain lines
pub csv-plain : (closed : Bool) {all : List (List ℕ)} → AllPlain carriage_return all → csv_lines (joined line_end_of closed all) ≡ all
unfolding csv_lines
csv-plain = joined-plain csv_lines line_end_of carriage_return refl csv-ended csv-alone
