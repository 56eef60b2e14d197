-- The columns of the table, as they are taken from rows of counts: set by set, and in each row threshold by threshold.
use Rattle.std.specs.Prelude.{List, map, ◌≡◌, ℕ, suc, ◌+◌, ◌*◌, ◌≤◌, ◌<◌, length, get_or, take}
use Rattle.model.specs.Answer.{written}
use Rattle.model.specs.Counting.{numbers_from}
use Rattle.model.specs.Envelope.{Envelope, between, envelope_of}
use Rattle.model.specs.Refusal.{accepted}
use Rattle.table.specs.Table.{leasts, greatests, spanned, columns_of}
use Rattle.table.specs.declared.answers.Table.{Table}
use Rattle.table.specs.declared.spans.Span.{Span}

-- a span as an envelope
abbrev pub envelope_in : Span → Envelope
envelope_in span = between span.lower span.upper

-- the envelope of the entries at place k of n rows from row s on, each of so many entries
unfoldable pub column_from : List ℕ → ℕ → ℕ → ℕ → ℕ → Envelope
column_from rows width k s n = envelope_of (map (λ s. get_or rows (s * width + k) 0) (numbers_from s n))

-- of every column, over the rows from 1 to the greatest
unfoldable pub columns : List ℕ → ℕ → ℕ → List Envelope
columns rows width greatest = map (λ k. column_from rows width k 1 greatest) (numbers_from 0 width)

-- the rows up to the greatest are there
pub record RowsThere (rows : List ℕ) (width greatest : ℕ) : Type 0 where
  pub there : suc greatest * width ≤ length rows

-- a column of them
pub record ColumnThere (rows : List ℕ) (width greatest k : ℕ) : Type 0 where
  pub rows_there : RowsThere rows width greatest
  pub some : 1 ≤ greatest
  pub inside : k < width

-- the columns are filled: the first row, and both ends of the envelopes
pub record ColumnsFilled (rows : List ℕ) (width greatest : ℕ) (first second third : List ℕ) (r : Table) (first' second' third' : List ℕ) : Type 0 where
  pub answer : r ≡ columns_of greatest
  pub observed_after : first' ≡ written accepted (take width rows) first
  pub lower_after : second' ≡ written accepted (leasts (columns rows width greatest)) second
  pub upper_after : third' ≡ written accepted (greatests (columns rows width greatest)) third

-- there is room for them
pub record ColumnsFit (rows : List ℕ) (width greatest : ℕ) (first second third : List ℕ) : Type 0 where
  pub rows_there : RowsThere rows width greatest
  pub first_room_of : width ≤ length first
  pub second_room_of : spanned greatest width ≤ length second
  pub third_room : spanned greatest width ≤ length third
