-- Laws of lines: the first line of a text is what stands before its first line end, and the other lines are those of what follows.
use mathlib.Core.Bool.{Bool, true, false, cond, ◌&&◌}
use mathlib.Core.List.{List, [], ◌∷◌}
use mathlib.Core.Path.{◌≡◌, refl, ap, ◌∙◌}
use Prim.Native.Nat.{ℕ, suc, ◌+◌, ◌≤◌, ◌<◌, min}
use native.Mathlib.Omega.{arith}
use native.Mathlib.Nat.{min-eq_left}
use borrow.Author.Tests.{ltb-true, ltb-false}
use lib.Dec.{eqb, ltb}
use lib.ListN.{length, take, drop, drop_of_length-le}
use lib.Seq.{drop-nil, drop-drop}
use Rattle.text.specs.Lines.{line_feed, carriage_return, in_front, feed_lines, csv_lines}
use Rattle.text.specs.NextLine.{line_to, feed_line_of, csv_line_of}
use Rattle.text.specs.Places.{first_at, pair_at}
use Rattle.text.specs.declared.lines.Line.{Line}
use Rattle.text.proofs.Laws.Places.{first-bound, pair-bound, pair-whole}

-- the first line, and the others behind a line end of so many bytes
abbrev pub Parted : (List ℕ → List (List ℕ)) → ℕ → ℕ → List ℕ → Type 0
Parted lines width end rest = lines rest ≡ take end rest ∷ lines (drop width (drop end rest))

-- a byte in front: the line end begins at it, or it belongs to the first line
front-parted :
    (lines : List ℕ → List (List ℕ)) (width b : ℕ) (rest : List ℕ) (end : ℕ) (here : Bool)
    → Parted lines width end rest
    → cond here ([] ∷ lines (drop width (b ∷ rest))) (in_front b (lines rest))
    ≡ take (cond here 0 (suc end)) (b ∷ rest) ∷ lines (drop width (drop (cond here 0 (suc end)) (b ∷ rest)))
unfolding in_front
front-parted lines width b rest end true e = refl
front-parted lines width b rest end false e = ap (in_front b) e

pub feed-parted : (rest : List ℕ) → 1 ≤ length rest → Parted feed_lines 1 (first_at line_feed rest) rest
unfolding feed_lines in_front first_at
feed-parted [] h = absurd (omega arith)
feed-parted (b ∷ []) h = alone (eqb b line_feed)
  where
    alone : (here : Bool) → cond here ([] ∷ []) ((b ∷ []) ∷ []) ≡ take (cond here 0 1) (b ∷ []) ∷ feed_lines (drop 1 (drop (cond here 0 1) (b ∷ [])))
    alone true = refl
    alone false = refl
feed-parted (b ∷ d ∷ bs) h = front-parted feed_lines 1 b (d ∷ bs) _ (eqb b line_feed) (feed-parted (d ∷ bs) (omega arith))

pub csv-parted : (rest : List ℕ) → 1 ≤ length rest → Parted csv_lines 2 (pair_at carriage_return line_feed rest) rest
unfolding csv_lines in_front pair_at
csv-parted [] h = absurd (omega arith)
csv-parted (b ∷ []) h = refl
csv-parted (b ∷ d ∷ bs) h = front-parted csv_lines 2 b (d ∷ bs) _ (eqb b carriage_return && eqb d line_feed) (csv-parted (d ∷ bs) (omega arith))

-- what is known of the first line of what is left of a text, and of where the next one begins; of an empty rest both places are 0
pub record NextLine (lines : List ℕ → List (List ℕ)) (rest : List ℕ) (end next : ℕ) : Type 0 where
  pub parts : 1 ≤ length rest → lines rest ≡ take end rest ∷ lines (drop next rest)
  pub onward : 1 ≤ length rest → 1 ≤ next
  pub ordered : end ≤ next
  pub inside : next ≤ length rest

-- from the place of the line end: there is one, or the last line is all that is left
module _ (lines : List ℕ → List (List ℕ)) (width end : ℕ) (rest : List ℕ) (parted : 1 ≤ length rest → Parted lines width end rest) where
  line-ended : 1 ≤ width → end + width ≤ length rest → NextLine lines rest end (end + width)
  line-ended w h = record {
    parts = λ some. rw drop-drop at (parted some);
    onward = λ some. omega arith;
    ordered = omega arith;
    inside = h;
  }

  line-last : length rest ≤ end → end ≤ length rest → NextLine lines rest end end
  line-last h k = record {
    parts = λ some. parted some ∙ simp (drop_of_length-le rest h, drop-nil {A = ℕ} width);
    onward = λ some. omega arith;
    ordered = omega arith;
    inside = k;
  }

  -- either way it is the line that the definition says
  pub next-line : 1 ≤ width → end ≤ length rest → (end < length rest → end + width ≤ length rest) → {r : Line} → r ≡ line_to end width rest → NextLine lines rest r.end r.next
  unfolding line_to
  next-line w k fits e = rw e (go (ltb end (length rest)) refl)
    where
      go : (b : Bool) → ltb end (length rest) ≡ b → NextLine lines rest end (min (end + width) (length rest))
      go true h =
          let inside : end + width ≤ length rest = fits (ltb-true end (length rest) h) in
          rw (min-eq_left inside) (line-ended w inside)
      go false h =
          let last : length rest ≤ end = ltb-false end (length rest) h in
          let short : min (end + width) (length rest) ≡ end = omega arith in
          rw short (line-last last k)

-- What follows from it.
pub feed-next : {rest : List ℕ} {r : Line} → r ≡ feed_line_of rest → NextLine feed_lines rest r.end r.next
unfolding feed_line_of
feed-next {rest} e =
    next-line feed_lines 1 (first_at line_feed rest) rest (feed-parted rest) (omega arith) (first-bound line_feed rest) (λ h. omega arith) e

pub csv-next : {rest : List ℕ} {r : Line} → r ≡ csv_line_of rest → NextLine csv_lines rest r.end r.next
unfolding csv_line_of
csv-next {rest} e =
    next-line csv_lines 2 (pair_at carriage_return line_feed rest) rest (csv-parted rest) (omega arith) (pair-bound carriage_return line_feed rest) (pair-whole carriage_return line_feed rest) e
