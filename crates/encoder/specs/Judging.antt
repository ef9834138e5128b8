-- The layer of rows: what is found of a message before it is encoded, by the rows of its header and trailer and the sizes of all.
use Rattle.std.specs.Prelude.{ℕ, ◌+◌, ◌-◌, ◌≤◌, ◌≡◌, Bool, true, List, [], length, ltb}
use Rattle.field_rules.specs.Choice.{pick}
use Rattle.message_maps.specs.Rows.{row_at, rows_from, message_words, message_rows}
use Rattle.message_lent_rules.specs.Lent.{fields_in}
use Rattle.message_rules.specs.RowChanges.{field_place, run_place}
use Rattle.message_rules.specs.declared.Span.{Span}
use Rattle.message_lent_rules.specs.Standing.{uncounted}
use Rattle.encode_rows.specs.Writing.{row_bytes, bytes_in}

-- a span of rows that are lent
pub record SpanWithin (words : List ℕ) (span : Span) : Type 0 where
  pub whole : length words ≡ message_words
  pub forwards : span.from ≤ span.to
  pub last : span.to ≤ span.count
  pub few : span.count ≤ message_rows

-- a part's own field, and a run of a part
unfoldable pub held_at : List ℕ → Span → ℕ → Bool
held_at words span tag = ltb (field_place span tag words) span.to

unfoldable pub hung_at : List ℕ → Span → ℕ → Bool
hung_at words span start = ltb (run_place span start words) span.to

-- how many bytes a part's own field takes
unfoldable pub size_at : List ℕ → Span → ℕ → ℕ
size_at words span tag = pick (held_at words span tag) (row_bytes (row_at words (field_place span tag words))) 0

unfoldable pub incomplete_at : List ℕ → Span → Span → Bool
incomplete_at words head tail =
    pick (held_at words head 8)
    (pick (held_at words head 35) (pick (hung_at words tail 10) true (uncounted [] (rows_from (head.count - 0) 0 words))) true)
    true

-- the bytes of all rows, and without the header's own 8 and 9 and the trailer's own 10
unfoldable pub all_bytes : List ℕ → Span → ℕ
all_bytes words head = bytes_in (rows_from (head.count - 0) 0 words)

unfoldable pub body_at : List ℕ → Span → Span → ℕ
body_at words head tail = all_bytes words head - (size_at words head 8 + size_at words head 9 + size_at words tail 10)

-- the fields with the new 9 and 10
unfoldable pub added_at : List ℕ → Span → ℕ → ℕ
added_at words span tag = pick (held_at words span tag) 0 1

unfoldable pub fields_at : List ℕ → Span → Span → ℕ
fields_at words head tail =
    fields_in 1 (rows_from (head.count - 0) 0 words) + (added_at words head 9 + added_at words tail 10)
