-- Six parts written one after the other are the six lists, and six numbers written are the six sums.
use Rattle.model.specs.Refusal.{accepted}
use mathlib.Core.List.{List, [], ◌∷◌, ◌++◌, append_assoc}
use mathlib.Core.Path.{◌≡◌, ◌∙◌, refl, sym, ap, ap₂}
use Prim.Native.Nat.{ℕ, ◌+◌, ◌*◌, ◌≤◌}
use native.Mathlib.Omega.{arith}
use lib.ListN.{length, take, drop, set, length-map, length-append}
use lib.Seq.{take_at, drop-append-add, drop-drop}
use Rattle.model.specs.Answer.{written}
use Rattle.model.specs.Location.{Side, at_first, at_second}
use Rattle.sweep.proofs.Laws.Kinds.{map-agree, below-standing, up-to-standing}
use Rattle.sweep.specs.Answers.{marked_if}
use Rattle.sweep.specs.Cursors.{positions, below, up_to, rest, moves}
use Rattle.edge_pair.specs.Edges.{side_of, distance_between}
use Rattle.sweep.specs.Six.{route_marks, window_marks, window_sum, six_marks, six_sums, placed, PartSwept, RouteSwept, EdgesSweepable, EdgesSwept}
use Rattle.sweep.specs.Moving.{below_cursor, up_to_cursor}
use Rattle.sweep.specs.Sweeping.{standing, resting}
use Rattle.sweep.specs.declared.cursor.Cursor.{Cursor}
use Rattle.edge_pair.specs.declared.edges.EdgePair.{EdgePair}

-- one part more behind those that are written
more : (done part old l l' : List ℕ) (from : ℕ) → from ≡ length done → l ≡ written accepted done old → l' ≡ placed from part l → l' ≡ written accepted (done ++ part) old
unfolding written placed
more done part old l l' from e f g =
    g
    ∙ ap₂ (λ (a b : List ℕ). a ++ (part ++ b)) (ap₂ take e f ∙ take_at done _ (length done) refl) (ap₂ (λ (n : ℕ) (m : List ℕ). drop (n + length part) m) e f ∙ drop-append-add done _ (length part) ∙ drop-drop (length part) (length done) old)
    ∙ sym (append_assoc done part _)
    ∙ ap (λ (n : ℕ). (done ++ part) ++ drop n old) (sym (length-append done part))

-- the first six numbers of a list
six-set : (m : List ℕ) (a b c d e f : ℕ) → 6 ≤ length m → set (set (set (set (set (set m 0 a) 1 b) 2 c) 3 d) 4 e) 5 f ≡ (a ∷ b ∷ c ∷ d ∷ e ∷ f ∷ []) ++ drop 6 m
six-set [] a b c d e f h = absurd (omega arith)
six-set (x₁ ∷ []) a b c d e f h = absurd (omega arith)
six-set (x₁ ∷ x₂ ∷ []) a b c d e f h = absurd (omega arith)
six-set (x₁ ∷ x₂ ∷ x₃ ∷ []) a b c d e f h = absurd (omega arith)
six-set (x₁ ∷ x₂ ∷ x₃ ∷ x₄ ∷ []) a b c d e f h = absurd (omega arith)
six-set (x₁ ∷ x₂ ∷ x₃ ∷ x₄ ∷ x₅ ∷ []) a b c d e f h = absurd (omega arith)
six-set (x₁ ∷ x₂ ∷ x₃ ∷ x₄ ∷ x₅ ∷ x₆ ∷ m) a b c d e f h = refl

six-written : (m : List ℕ) → 6 ≤ length m → {r₁ r₂ r₃ r₄ r₅ r₆ s₁ s₂ s₃ s₄ s₅ s₆ : ℕ} → r₁ ≡ s₁ → r₂ ≡ s₂ → r₃ ≡ s₃ → r₄ ≡ s₄ → r₅ ≡ s₅ → r₆ ≡ s₆ → set (set (set (set (set (set m 0 r₁) 1 r₂) 2 r₃) 3 r₄) 4 r₅) 5 r₆ ≡ written accepted (s₁ ∷ s₂ ∷ s₃ ∷ s₄ ∷ s₅ ∷ s₆ ∷ []) m
unfolding written
six-written m h {r₁} {r₂} {r₃} {r₄} {r₅} {r₆} {s₁} {s₂} {s₃} {s₄} {s₅} {s₆} e₁ e₂ e₃ e₄ e₅ e₆ = rw (e₁, e₂, e₃, e₄, e₅, e₆) (six-set m s₁ s₂ s₃ s₄ s₅ s₆ h)

nothing_written : (l : List ℕ) → l ≡ written accepted [] l
unfolding written
nothing_written l = refl

module _ (t : ℕ) (w : EdgePair) (xs ys : List ℕ) where
  abbrev marks : Side → Side → List ℕ
  marks s s' = route_marks t w.length1 w.length2 (distance_between w) w.same xs ys s s'

  abbrev window : (List ℕ → ℕ → ℕ) → List ℕ
  window f = window_marks t w.length1 w.length2 (distance_between w) w.same xs ys f

  marks-length : (s s' : Side) → length (marks s s') ≡ length xs
  unfolding route_marks positions
  marks-length s s' = simp length-map

  window-length : (f : List ℕ → ℕ → ℕ) → length (window f) ≡ length xs
  unfolding window_marks
  window-length f = simp length-map

  -- a cursor of the window is where f says
  window-marks : (c : Cursor) (f : List ℕ → ℕ → ℕ) (from r : ℕ) (l l' : List ℕ) → ((x : ℕ) → standing c w.length2 ys x ≡ f ys x) → resting c ys ≡ 0 → PartSwept w.same c w.length2 xs ys from l r l' → (l' ≡ placed from (window f) l) × (r ≡ window_sum t w.length1 w.length2 (distance_between w) w.same xs ys f)
  unfolding window_marks window_sum
  window-marks c f from r l l' stands rests done = (
    done.positions_are ∙ ap (λ (m : List ℕ). placed from m l) (map-agree _ _ xs (λ k h. ap (marked_if w.same) (stands _))),
    done.moves_are ∙ ap₂ (λ (n : ℕ) (m : List ℕ). marked_if w.same (moves n m)) rests (map-agree _ _ xs (λ k h. stands _)),
  )

  below-rests : resting (below_cursor t) ys ≡ 0
  unfolding resting below_cursor side_of rest
  below-rests = refl

  up-to-rests : resting (up_to_cursor t) ys ≡ 0
  unfolding resting up_to_cursor side_of rest
  up-to-rests = refl

  -- all six
  pub all-six : (low high : Cursor) (l₀ l₁ l₂ l₃ l₄ l₅ l₆ m : List ℕ) (r₁ r₂ r₃ r₄ r₅ r₆ : ℕ) → EdgesSweepable w xs ys l₀ m → RouteSwept t w at_first at_first xs ys 0 l₀ r₁ l₁ → RouteSwept t w at_first at_second xs ys (length xs) l₁ r₂ l₂ → RouteSwept t w at_second at_first xs ys (2 * length xs) l₂ r₃ l₃ → RouteSwept t w at_second at_second xs ys (3 * length xs) l₃ r₄ l₄ → low ≡ below_cursor t → PartSwept w.same low w.length2 xs ys (4 * length xs) l₄ r₅ l₅ → high ≡ up_to_cursor t → PartSwept w.same high w.length2 xs ys (5 * length xs) l₅ r₆ l₆ → EdgesSwept t w xs ys l₀ m l₆ (set (set (set (set (set (set m 0 r₁) 1 r₂) 2 r₃) 3 r₄) 4 r₅) 5 r₆)
  unfolding six_marks six_sums
  all-six low high l₀ l₁ l₂ l₃ l₄ l₅ l₆ m r₁ r₂ r₃ r₄ r₅ r₆ ready p₁ p₂ p₃ p₄ is-low p₅ is-high p₆ =
      let n₁ = marks-length at_first at_first in
      let n₂ = marks-length at_first at_second in
      let n₃ = marks-length at_second at_first in
      let n₄ = marks-length at_second at_second in
      let n₅ = window-length (below t) in
      let w₅ = window-marks (below_cursor t) (below t) (4 * length xs) r₅ l₄ l₅ (below-standing t w.length2 ys) below-rests (rw is-low at p₅) in
      let w₆ = window-marks (up_to_cursor t) (up_to t) (5 * length xs) r₆ l₅ l₆ (up-to-standing t w.length2 ys) up-to-rests (rw is-high at p₆) in
      let o₁ = marks at_first at_first in
      let o₂ = marks at_first at_second in
      let o₃ = marks at_second at_first in
      let o₄ = marks at_second at_second in
      let o₅ = window (below t) in
      let e₁ : l₁ ≡ written accepted o₁ l₀ = more [] o₁ l₀ l₀ l₁ 0 refl none_yet p₁.positions_are in
      let e₂ : l₂ ≡ written accepted (o₁ ++ o₂) l₀ = more o₁ o₂ l₀ l₁ l₂ (length xs) (sym n₁) e₁ p₂.positions_are in
      let e₃ : l₃ ≡ written accepted ((o₁ ++ o₂) ++ o₃) l₀ = more (o₁ ++ o₂) o₃ l₀ l₂ l₃ (2 * length xs) (simp length-append (omega arith)) e₂ p₃.positions_are in
      let e₄ : l₄ ≡ written accepted (((o₁ ++ o₂) ++ o₃) ++ o₄) l₀ = more ((o₁ ++ o₂) ++ o₃) o₄ l₀ l₃ l₄ (3 * length xs) (simp length-append (omega arith)) e₃ p₄.positions_are in
      let e₅ : l₅ ≡ written accepted ((((o₁ ++ o₂) ++ o₃) ++ o₄) ++ o₅) l₀ = more (((o₁ ++ o₂) ++ o₃) ++ o₄) o₅ l₀ l₄ l₅ (4 * length xs) (simp length-append (omega arith)) e₄ w₅.0 in
      let e₆ : l₆ ≡ written accepted (((((o₁ ++ o₂) ++ o₃) ++ o₄) ++ o₅) ++ window (up_to t)) l₀ = more ((((o₁ ++ o₂) ++ o₃) ++ o₄) ++ o₅) (window (up_to t)) l₀ l₅ l₆ (5 * length xs) (simp length-append (omega arith)) e₅ w₆.0 in
      record {
        positions_are = e₆ ∙ ap (λ (l : List ℕ). written accepted l l₀) (simp append_assoc);
        moves_are = six-written m ready.sums_room p₁.moves_are p₂.moves_are p₃.moves_are p₄.moves_are w₅.1 w₆.1;
      }
    where
      none_yet : l₀ ≡ written accepted [] l₀
      none_yet = nothing_written l₀
