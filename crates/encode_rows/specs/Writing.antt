-- The layer of rows: what is written of rows and their values, one row behind the other.
use Rattle.std.specs.Prelude.{ℕ, ◌+◌, ◌-◌, ◌≤◌, ◌≡◌, Bool, true, false, List, [], ◌∷◌, ◌++◌, length, take, drop, eqb}
use Rattle.field_rules.specs.Choice.{pick}
use Rattle.field_rules.specs.Decimal.{decimal}
use Rattle.field_rules.specs.Field.{field_bytes}
use Rattle.message_maps.specs.Rows.{Row, row, rows_from, size_of, message_words, message_rows}
use Rattle.message_rules.specs.RowChanges.{place_of}
use Rattle.message_rules.specs.declared.Span.{Span}
use Rattle.encode_rules.specs.Encoding.{is_rest, sum_digits}

-- which tags of a map are written: all (0), all but 8, 9 and 35 (1), or one
unfoldable pub chosen : ℕ → ℕ → Bool
chosen which tag = pick (eqb which 0) true (pick (eqb which 1) (is_rest tag) (eqb tag which))

-- whether a row is written: by its own tag at the map's level, below that as what it hangs on
unfoldable pub row_on : ℕ → Bool → Row → Bool
row_on which on (row k l t x) = pick (eqb l 1) (chosen which t) on

unfoldable pub row_text : ℕ → Bool → Row → List ℕ → List ℕ
row_text separator on (row k l t x) values =
    pick on (pick (eqb k 1) (field_bytes separator (decimal t) (take x values)) []) []

unfoldable pub rows_text : ℕ → ℕ → Bool → List Row → List ℕ → List ℕ
rows_text which separator on [] values = []
rows_text which separator on (r ∷ rows) values =
    row_text separator (row_on which on r) r values ++ rows_text which separator (row_on which on r) rows (drop (size_of r) values)

-- "tag digits + value + 2"
unfoldable pub row_bytes : Row → ℕ
row_bytes (row k l t x) = pick (eqb k 1) (length (decimal t) + x + 2) 0

unfoldable pub bytes_in : List Row → ℕ
bytes_in [] = 0
bytes_in (r ∷ rows) = row_bytes r + bytes_in rows

-- what is written of a map whose rows stand in a span
unfoldable pub items_at : List ℕ → List ℕ → Span → ℕ → ℕ → List ℕ
items_at words values span which separator =
    rows_text which separator false (rows_from (span.to - span.from) span.from words) (drop (place_of words span.from) values)

-- the header: 8, 9 and 35, then the rest of it
unfoldable pub header_at : List ℕ → List ℕ → Span → ℕ → List ℕ
header_at words values head separator =
    items_at words values head 8 separator
    ++ (items_at words values head 9 separator ++ (items_at words values head 35 separator ++ items_at words values head 1 separator))

-- header, body and trailer
unfoldable pub text_at : List ℕ → List ℕ → Span → Span → Span → ℕ → List ℕ
text_at words values head middle tail separator =
    header_at words values head separator ++ (items_at words values middle 0 separator ++ items_at words values tail 0 separator)

-- a span whose rows stand in a store, and their values
pub record Stands (words values : List ℕ) (span : Span) : Type 0 where
  pub whole : length words ≡ message_words
  pub grows : span.from ≤ span.to
  pub within : span.to ≤ message_rows
  pub place : place_of words span.to ≤ length values

pub record Spans (words values output : List ℕ) (head middle tail : Span) (separator : ℕ) : Type 0 where
  pub header : Stands words values head
  pub body : Stands words values middle
  pub trailer : Stands words values tail
  pub room : length (text_at words values head middle tail separator) ≤ length output

-- "the prefix `10=`, three digits and the separator"
unfoldable pub tail_of : ℕ → List ℕ → List ℕ
tail_of separator before = 49 ∷ 48 ∷ 61 ∷ (sum_digits before ++ (separator ∷ []))
