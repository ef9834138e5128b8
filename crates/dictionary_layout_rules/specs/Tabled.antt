-- A table that holds a layout: where the rows of its items and of what lies within them stand, and that the rows of a level are the layout's
-- own items. What stands in the table before and after the level makes no difference.
use Rattle.std.specs.Prelude.{◌≡◌, Bool, true, false, List, [], ◌∷◌, ◌++◌, ℕ, ◌+◌, ◌*◌, ◌/◌, ◌%◌, length, eqb}
use Rattle.dictionary_layout_rules.specs.Layout.{Layout, end, field, group, items}
use Rattle.dictionary_layout_rules.specs.Table.{marks, rows_from, Row, tag_at, required_at, group_at, link_at}
use Rattle.dictionary_layout_rules.specs.declared.Level.{Level}

-- the rows of a layout stand in a table from the row `at` on
pub record RowsStand (table : List ℕ) (at : ℕ) (layout : Layout) : Type 0 where
  pub before : List ℕ
  pub after : List ℕ
  pub whole : table ≡ before ++ (rows_from at layout ++ after)
  pub start : length before ≡ 4 * at

-- the layout's own items as the rows of a level
unfoldable pub own_rows : ℕ → Layout → List Row
own_rows at end = []
own_rows at (field tag required rest) = record { place = at; tag = tag; required = required; is_group = false; link = at + 1; next = at + 1 } ∷ own_rows (at + 1) rest
own_rows at (group tag required inner rest) = record { place = at; tag = tag; required = required; is_group = true; link = at + 1 + items inner; next = at + 1 + items inner } ∷ own_rows (at + 1 + items inner) rest

-- the level is a stretch of the table that holds the layout
pub record Tabled (table : List ℕ) (level : Level) (layout : Layout) : Type 0 where
  pub stands : RowsStand table level.first layout
  pub ends : level.end ≡ level.first + items layout

-- the words of a row in front of others, and what they say where they stand
abbrev pub row_before : ℕ → Bool → Bool → ℕ → List ℕ → List ℕ
row_before tag required is_group link more = tag % 65536 ∷ tag / 65536 ∷ marks required is_group ∷ link ∷ more

pub record RowSays (table : List ℕ) (at tag : ℕ) (required is_group : Bool) (link : ℕ) : Type 0 where
  pub tagged : tag_at table at ≡ tag
  pub marked : eqb (required_at table at) 1 ≡ required
  pub grouped : eqb (group_at table at) 1 ≡ is_group
  pub linked : link_at table at ≡ link
