-- The parts of a line put one behind the other: there is room for each, and together they are the line.
use mathlib.Core.List.{List, ◌∷◌, ◌++◌}
use Prim.Native.Nat.{ℕ}
use Rattle.model.specs.Envelope.{Envelope}
use Rattle.text.specs.Digits.{digits}
use Rattle.text.specs.Fields.{comma}
use Rattle.text.specs.Lines.{line_end_of}
use Rattle.printing.specs.Bytes.{span, row, refused_word, refusal_line}
use Rattle.printing.specs.Writing.{Room, Put}
use Rattle.printing.proofs.Laws.Writing.{Writing, begin, step, last, room_next, room-last}

-- two parts
module _ (out : List ℕ) (place : ℕ) (xs ys : List ℕ) (room : Room out place (xs ++ ys)) where
  pub first_room_of : Room out place xs
  first_room_of = room_next xs ys (begin room)

  module _ {out₁ : List ℕ} {r₁ : ℕ} (first : Put out place xs out₁ r₁) where
    pub second_room_of : Room out₁ r₁ ys
    second_room_of = room-last ys (step xs ys (begin room) first)

    pub both-put : {out₂ : List ℕ} {r₂ : ℕ} → Put out₁ r₁ ys out₂ r₂ → Put out place (xs ++ ys) out₂ r₂
    both-put second = last ys (step xs ys (begin room) first) second

-- a row: threshold, observed, least and greatest, line end
module _ (out : List ℕ) (place threshold observed : ℕ) (envelope : Envelope) (room : Room out place (row threshold observed envelope)) where
  abbrev Row : List ℕ → ℕ → List ℕ → Type 0
  Row now at' rest = Writing out place (row threshold observed envelope) now at' rest

  row₀ : Row out place (digits threshold ++ ((comma ∷ digits observed) ++ ((comma ∷ span envelope) ++ line_end_of)))
  unfolding row
  row₀ = begin room

  pub threshold-room : Room out place (digits threshold)
  threshold-room = room_next (digits threshold) ((comma ∷ digits observed) ++ ((comma ∷ span envelope) ++ line_end_of)) row₀

  module _ {out₁ : List ℕ} {r₁ : ℕ} (put₁ : Put out place (digits threshold) out₁ r₁) where
    row₁ : Row out₁ r₁ ((comma ∷ digits observed) ++ ((comma ∷ span envelope) ++ line_end_of))
    row₁ = step (digits threshold) ((comma ∷ digits observed) ++ ((comma ∷ span envelope) ++ line_end_of)) row₀ put₁

    pub observed-room : Room out₁ r₁ (comma ∷ digits observed)
    observed-room = room_next (comma ∷ digits observed) ((comma ∷ span envelope) ++ line_end_of) row₁

    module _ {out₂ : List ℕ} {r₂ : ℕ} (put₂ : Put out₁ r₁ (comma ∷ digits observed) out₂ r₂) where
      row₂ : Row out₂ r₂ ((comma ∷ span envelope) ++ line_end_of)
      row₂ = step (comma ∷ digits observed) ((comma ∷ span envelope) ++ line_end_of) row₁ put₂

      pub span-room : Room out₂ r₂ (comma ∷ span envelope)
      span-room = room_next (comma ∷ span envelope) line_end_of row₂

      module _ {out₃ : List ℕ} {r₃ : ℕ} (put₃ : Put out₂ r₂ (comma ∷ span envelope) out₃ r₃) where
        row₃ : Row out₃ r₃ line_end_of
        row₃ = step (comma ∷ span envelope) line_end_of row₂ put₃

        pub row-end-room : Room out₃ r₃ line_end_of
        row-end-room = room-last line_end_of row₃

        pub row_done : {out₄ : List ℕ} {r₄ : ℕ} → Put out₃ r₃ line_end_of out₄ r₄ → Put out place (row threshold observed envelope) out₄ r₄
        row_done put₄ = last line_end_of row₃ put₄

-- a refusal: the word, the file's name, number, place, line end
module _ (out file : List ℕ) (number place : ℕ) (room : Room out 0 (refusal_line file number place)) where
  abbrev Line : List ℕ → ℕ → List ℕ → Type 0
  Line now at' rest = Writing out 0 (refusal_line file number place) now at' rest

  abbrev numbers : List ℕ
  numbers = (comma ∷ digits number) ++ ((comma ∷ digits place) ++ line_end_of)

  line₀ : Line out 0 (refused_word ++ (file ++ numbers))
  unfolding refusal_line
  line₀ = begin room

  pub word_room : Room out 0 refused_word
  word_room = room_next refused_word (file ++ numbers) line₀

  module _ {out₁ : List ℕ} {r₁ : ℕ} (put₁ : Put out 0 refused_word out₁ r₁) where
    line₁ : Line out₁ r₁ (file ++ numbers)
    line₁ = step refused_word (file ++ numbers) line₀ put₁

    pub file-room : Room out₁ r₁ file
    file-room = room_next file numbers line₁

    module _ {out₂ : List ℕ} {r₂ : ℕ} (put₂ : Put out₁ r₁ file out₂ r₂) where
      line₂ : Line out₂ r₂ numbers
      line₂ = step file numbers line₁ put₂

      pub number-room : Room out₂ r₂ (comma ∷ digits number)
      number-room = room_next (comma ∷ digits number) ((comma ∷ digits place) ++ line_end_of) line₂

      module _ {out₃ : List ℕ} {r₃ : ℕ} (put₃ : Put out₂ r₂ (comma ∷ digits number) out₃ r₃) where
        line₃ : Line out₃ r₃ ((comma ∷ digits place) ++ line_end_of)
        line₃ = step (comma ∷ digits number) ((comma ∷ digits place) ++ line_end_of) line₂ put₃

        pub place-room : Room out₃ r₃ (comma ∷ digits place)
        place-room = room_next (comma ∷ digits place) line_end_of line₃

        module _ {out₄ : List ℕ} {r₄ : ℕ} (put₄ : Put out₃ r₃ (comma ∷ digits place) out₄ r₄) where
          line₄ : Line out₄ r₄ line_end_of
          line₄ = step (comma ∷ digits place) line_end_of line₃ put₄

          pub line-end-room : Room out₄ r₄ line_end_of
          line-end-room = room-last line_end_of line₄

          pub line-done : {out₅ : List ℕ} {r₅ : ℕ} → Put out₄ r₄ line_end_of out₅ r₅ → Put out 0 (refusal_line file number place) out₅ r₅
          line-done put₅ = last line_end_of line₄ put₅
