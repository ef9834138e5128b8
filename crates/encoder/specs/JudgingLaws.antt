-- The steps by which a message is judged, each for one way the code can go.
use Rattle.std.specs.Prelude.{◌≡◌, List, ℕ, ◌-◌, ◌≤◌, ◌<◌}
use borrow.Author.Tests.{lt-ltb, le-ltb}
use Rattle.message_maps.specs.Rows.{row_at, rows_from, find_from}
use Rattle.message_rules.specs.RowChanges.{field_place}
use Rattle.message_rules.specs.declared.Span.{Span}
use Rattle.encode_rows.specs.Writing.{row_bytes}
use Rattle.encoder.specs.Judging.{held_at, size_at}

-- the size of a part's own field
module _ (words : List ℕ) (span : Span) (tag at : ℕ) (found : at ≡ find_from 1 1 tag span.from (rows_from (span.to - span.from) span.from words)) where
  pub size-there : at < span.to → row_bytes (row_at words at) ≡ size_at words span tag
  unfolding size_at held_at field_place
  size-there h = rw (← found, lt-ltb at span.to h)

  pub size_none : span.to ≤ at → size_at words span tag ≡ 0
  unfolding size_at held_at field_place
  size_none h = rw (← found, le-ltb at span.to h)
