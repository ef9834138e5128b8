-- The layer of rows: the rows that stand below a head, and what is found among them.
use Rattle.std.specs.Prelude.{ℕ, ◌+◌, ◌-◌, Bool, List, [], ◌∷◌, eqb, ltb}
use Rattle.field_rules.specs.Choice.{pick}
use Rattle.message_maps.specs.Rows.{Row, row, row_at, rows_from, level_of, size_of, matches, end_from}
use Rattle.message_lent_rules.specs.Lent.{row_count, is_message}
use Rattle.message_rules.specs.declared.FoundValue.{FoundValue}
use Rattle.message_rules.specs.declared.FoundValue.TheVariants as value
use Rattle.message_rules.specs.declared.FoundMap.{FoundMap}
use Rattle.message_rules.specs.declared.FoundMap.TheVariants as map
use Rattle.message_look_ups.specs.declared.Rows.{Rows}
use Rattle.message_look_ups.specs.declared.Opened.{Opened}
use Rattle.message_look_ups.specs.declared.Opened.TheVariants.{NoMessage, Absent, Within}

unfoldable pub is_head : Row → Bool
is_head (row k l t x) = eqb k 2

-- the rows below a head, up to the next that stands no deeper than it
unfoldable pub rows_below : ℕ → List ℕ → Rows
rows_below head words =
    record {
      level = level_of (row_at words head) + 1;
      from = head + 1;
      to = end_from (level_of (row_at words head)) (head + 1) (rows_from (row_count words - (head + 1)) (head + 1) words);
    }

unfoldable pub opened_at : ℕ → List ℕ → List ℕ → Opened
opened_at head words values =
    pick (is_message words values)
    (pick (ltb head (row_count words)) (pick (is_head (row_at words head)) (Within (rows_below head words)) Absent) Absent)
    NoMessage

unfoldable pub value_from : ℕ → ℕ → ℕ → List Row → FoundValue
value_from level tag place [] = value.Absent
value_from level tag place (r ∷ rows) =
    pick (matches 1 level tag r) (value.At (record { place = place; size = size_of r })) (value_from level tag (place + size_of r) rows)

unfoldable pub entry_from : ℕ → ℕ → ℕ → ℕ → List Row → FoundMap
entry_from level start number at [] = map.Absent
entry_from level start number at (r ∷ rows) =
    pick (matches 2 level start r)
    (pick (eqb number 0) (map.At at) (entry_from level start (number - 1) (at + 1) rows))
    (entry_from level start number (at + 1) rows)
