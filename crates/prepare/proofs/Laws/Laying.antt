-- Laying out the sets one after the other: how the loop goes.
use Rattle.model.specs.Refusal.{Check, accepted}
use mathlib.Core.List.{List, ◌++◌, map, map-append}
use mathlib.Core.Logic.{⊎_elim}
use mathlib.Core.Path.{◌≡◌, sym, ap, ap₂, ◌∙◌}
use Prim.Native.Nat.{ℕ, suc, ◌+◌, ◌-◌, ◌≤◌, ◌<◌}
use native.Mathlib.Nat.{eq-or-lt_of_le}
use native.Mathlib.Numerals.{add-one}
use native.Mathlib.Omega.{arith}
use lib.ListN.{length, get_or, take, drop, set, length-map}
use borrow.Rule.Slice.PartMut.{put_mid}
use lib.Seq.{take-append-add, take-append-le, take_at, length-take-le, get_or-set_same, get_or-set_other}
use Rattle.layout.specs.Layout.{LaidOut}
use Rattle.model.proofs.Laws.Answer.{written-whole}
use Rattle.model.proofs.Laws.Checks.{layout-accepts}
use Rattle.model.proofs.Laws.Pieces.{part_length}
use Rattle.model.proofs.Laws.Sorted.{sorted-length}
use Rattle.model.specs.Answer.{written}
use Rattle.model.specs.Checks.{layout_check}
use Rattle.model.specs.Events.{Event, events, having, sorted, set_size}
use Rattle.model.specs.Limits.{max_events}
use Rattle.prepare.specs.Laying.{SetFits, SetLaid, SetsFit, SetsLaid}
use Rattle.prepare.specs.Prepared.{laid_out_set, grouped_from, start_of}
use Rattle.prepare.proofs.Laws.Groups.{events-length, having-events, start_first, start-next, starts-rise, grouped-last}

-- one of the two lists of a set: gathered, laid out and put back
module _ (sets es xs : List ℕ) (s : ℕ) (same : length es ≡ length xs) (n : ℕ) (edges offsets : List ℕ)
    (gathered : take n edges ≡ having s sets es) (beside : take n offsets ≡ having s sets xs)
    (edges_room : n ≤ length edges) (offsets_room : n ≤ length offsets) (few : n ≤ max_events)
    (r : Check) (edges' offsets' : List ℕ) (laid : LaidOut (take n edges) (take n offsets) r edges' offsets') where
  passed : layout_check (take n edges) (take n offsets) ≡ accepted
  passed =
      layout-accepts _ _ (record { same_length = length-take-le n edges edges_room ∙ sym (length-take-le n offsets offsets_room); few = rw (length-take-le n edges edges_room) few })

  laid-events : sorted (events (take n edges) (take n offsets)) ≡ laid_out_set sets (events es xs) s
  unfolding laid_out_set
  laid-events = ap sorted (ap₂ events gathered beside ∙ sym (having-events s sets es xs same))

  laid-many : (f : Event → ℕ) → length (map f (sorted (events (take n edges) (take n offsets)))) ≡ n
  laid-many f =
      length-map (sorted (events (take n edges) (take n offsets))) f
      ∙ sorted-length (events (take n edges) (take n offsets))
      ∙ events-length (take n edges) (take n offsets) (length-take-le n edges edges_room ∙ sym (length-take-le n offsets offsets_room))
      ∙ length-take-le n edges edges_room

  -- whichever list it is, with f the edge or the offset
  put_back : (f : Event → ℕ) (old old' : List ℕ) → n ≤ length old
      → old' ≡ written (layout_check (take n edges) (take n offsets)) (map f (sorted (events (take n edges) (take n offsets)))) (take n old)
      → take n (old' ++ drop n old) ≡ map f (laid_out_set sets (events es xs) s)
  put_back f old old' room e =
      let whole = e ∙ written-whole _ _ passed (omega (arith, laid-many f, length-take-le n old room)) in
      take_at old' (drop n old) n (ap length whole ∙ laid-many f) ∙ whole ∙ ap (map f) laid-events

  pub set-laid : n ≡ set_size sets s → SetLaid sets es xs s n (edges' ++ drop n edges) (offsets' ++ drop n offsets)
  set-laid many =
      record {
        many = many;
        edges_are = put_back (λ e. e.edge) edges edges' edges_room laid.edges_after;
        offsets_are = put_back (λ e. e.offset) offsets offsets' offsets_room laid.offsets_after;
      }

-- no set laid out
pub none-laid : (sets es xs edges offsets starts : List ℕ) → 0 < length starts → SetsLaid sets es xs 0 edges offsets (set starts 0 0)
unfolding grouped_from
none-laid sets es xs edges offsets starts room =
    record {
      edges_are = rw (start_first sets);
      offsets_are = rw (start_first sets);
      starts_are = λ s h. let first : s ≡ 0 = omega arith in rw first (get_or-set_same starts 0 0 0 room ∙ sym (start_first sets));
    }

-- the front of a list, and behind it a part whose own front has been filled
put-behind : (f : Event → ℕ) (old part rest : List ℕ) (start n : ℕ) (ms ns : List Event) → start ≤ length old → n ≤ length part
    → take start old ≡ map f ms → take n part ≡ map f ns → take (start + n) (take start old ++ (part ++ rest)) ≡ map f (ms ++ ns)
put-behind f old part rest start n ms ns room part_room front next =
    ap (λ (k : ℕ). take (k + n) (take start old ++ (part ++ rest))) (sym (length-take-le start old room))
    ∙ take-append-add (take start old) (part ++ rest) n
    ∙ ap (λ (l : List ℕ). take start old ++ l) (take-append-le n part rest part_room)
    ∙ ap₂ (λ (k l : List ℕ). k ++ l) front next
    ∙ sym (map-append f ms ns)

-- a turn of the loop, in the terms of the code
module _ (sets es xs : List ℕ) (n : ℕ) (edges₀ offsets₀ starts₀ : List ℕ) (asked : SetsFit sets es xs n edges₀ offsets₀ starts₀)
    (edges offsets starts : List ℕ) (start s : ℕ) (edges-long : length edges ≡ length edges₀) (offsets-long : length offsets ≡ length offsets₀)
    (starts-long : length starts ≡ length starts₀) (now : start ≡ start_of sets s) (so_far : SetsLaid sets es xs s edges offsets starts) (inside : s < n) where
  pub set-end : start + set_size sets s ≤ start_of sets n
  set-end = omega (arith, starts-rise sets (suc s) n inside, start-next sets s)

  pub set-fits : SetFits sets es xs s (take (length edges - start) (drop start edges)) (take (length offsets - start) (drop start offsets))
  set-fits =
      let end = set-end in
      record {
        sets_length = asked.sets_length;
        same_length = asked.same_length;
        few = omega (arith, asked.few);
        edges_room = rw (part_length start (length edges) edges (omega arith)) (omega (arith, asked.edges_room));
        offsets_room = rw (part_length start (length offsets) offsets (omega arith)) (omega (arith, asked.offsets_room));
      }

  module _ (r : ℕ) (edges' offsets' : List ℕ) (edges_kept : length edges' ≡ length (take (length edges - start) (drop start edges)))
      (offsets_kept : length offsets' ≡ length (take (length offsets - start) (drop start offsets))) (laid : SetLaid sets es xs s r edges' offsets') where
    pub next_start : start + r ≡ start_of sets (s + 1)
    next_start = rw (add-one s) (omega (arith, laid.many, start-next sets s))

    behind : (f : Event → ℕ) (old part rest : List ℕ) → start_of sets n ≤ length old → r ≤ length part
        → take (start_of sets s) old ≡ map f (grouped_from sets (events es xs) 0 s) → take r part ≡ map f (laid_out_set sets (events es xs) s)
        → take (start_of sets (s + 1)) (take start old ++ (part ++ rest)) ≡ map f (grouped_from sets (events es xs) 0 (s + 1))
    behind f old part rest room part_room front next =
        let end = set-end in
        rw (← next_start, add-one s, grouped-last sets (events es xs) s)
        (put-behind f old part rest start r (grouped_from sets (events es xs) 0 s) (laid_out_set sets (events es xs) s) (omega arith) part_room (rw now front) next)

    noted : (q : ℕ) → q ≤ s + 1 → get_or (set starts (s + 1) (start + r)) q 0 ≡ start_of sets q
    noted q h =
        ⊎_elim (λ e. rw e (get_or-set_same starts (s + 1) (start + r) 0 (omega (arith, asked.starts_room)) ∙ next_start))
        (λ l. get_or-set_other starts (s + 1) q (start + r) 0 (λ e. omega arith) ∙ so_far.starts_are q (omega arith))
        (eq-or-lt_of_le {n = q} {m = s + 1} h)

    pub next-laid : SetsLaid sets es xs (s + 1) (put_mid start (length edges - start) edges edges') (put_mid start (length offsets - start) offsets offsets')
        (set starts (s + 1) (start + r))
    next-laid =
        let end = set-end in
        record {
          edges_are = behind (λ e. e.edge) edges edges' _ (omega (arith, asked.edges_room))
              (omega (arith, laid.many, asked.edges_room, part_length start (length edges) edges (omega arith))) so_far.edges_are laid.edges_are;
          offsets_are = behind (λ e. e.offset) offsets offsets' _ (omega (arith, asked.offsets_room))
              (omega (arith, laid.many, asked.offsets_room, part_length start (length offsets) offsets (omega arith))) so_far.offsets_are laid.offsets_are;
          starts_are = noted;
        }
