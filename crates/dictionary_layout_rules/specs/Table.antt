-- A flattened layout as a table of rows, as it is laid before it is pressed: a row of four words to an item, in the order in which the items
-- are written down, so that a group's entries stand right after it. A row holds the low and the high half of the tag, 16 bits each, the marks
-- (required, and whether it is a group), and the row where what belongs to it ends. A level is walked from sibling to sibling. Walking has a
-- meaning for every content of a table: a link is followed only if it rises.
use Rattle.std.specs.Prelude.{ℕ, zero, suc, ◌+◌, ◌-◌, ◌*◌, ◌/◌, ◌%◌, List, [], ◌∷◌, ◌++◌, Bool, true, false, get_or, eqb, ltb}
use Rattle.field_rules.specs.Choice.{pick}
use Rattle.dictionary_layout_rules.specs.Layout.{Layout, end, field, group, items}

-- words to a row
abbrev pub row_stride : ℕ
row_stride = 4

unfoldable pub mark : Bool → ℕ
mark true = 1
mark false = 0

-- the marks of a row: whether the item is required, and whether it is a group
unfoldable pub marks : Bool → Bool → ℕ
marks required is_group = mark required + 2 * mark is_group

-- the table of a layout whose first row is the row `at`
unfoldable pub rows_from : ℕ → Layout → List ℕ
rows_from at end = []
rows_from at (field tag required rest) = tag % 65536 ∷ tag / 65536 ∷ marks required false ∷ (at + 1) ∷ rows_from (at + 1) rest
rows_from at (group tag required inner rest) =
    tag % 65536 ∷ tag / 65536 ∷ marks required true ∷ (at + 1 + items inner) ∷ (rows_from (at + 1) inner ++ rows_from (at + 1 + items inner) rest)

-- a row as it is looked at: where it stands, what it holds, and the sibling that comes next
pub record Row : Type 0 where
  pub place : ℕ
  pub tag : ℕ
  pub required : Bool
  pub is_group : Bool
  pub link : ℕ
  pub next : ℕ

abbrev pub tag_at : List ℕ → ℕ → ℕ
tag_at table at = get_or table (row_stride * at) 0 + 65536 * get_or table (row_stride * at + 1) 0

abbrev pub marks_at : List ℕ → ℕ → ℕ
marks_at table at = get_or table (row_stride * at + 2) 0

abbrev pub required_at : List ℕ → ℕ → ℕ
required_at table at = marks_at table at % 2

abbrev pub group_at : List ℕ → ℕ → ℕ
group_at table at = marks_at table at / 2

abbrev pub link_at : List ℕ → ℕ → ℕ
link_at table at = get_or table (row_stride * at + 3) 0

-- a link that doesn't rise ends the level
unfoldable pub next_sibling : List ℕ → ℕ → ℕ → ℕ
next_sibling table at stop = pick (ltb at (link_at table at)) (link_at table at) stop

unfoldable pub row_at : List ℕ → ℕ → ℕ → Row
row_at table at stop = record { place = at; tag = tag_at table at; required = eqb (required_at table at) 1; is_group = eqb (group_at table at) 1; link = link_at table at; next = next_sibling table at stop }

-- the rows from one on, before the row `stop`; places rise, so the fuel is what lies between
unfoldable pub siblings_within : ℕ → List ℕ → ℕ → ℕ → List Row
siblings_within zero table at stop = []
siblings_within (suc fuel) table at stop =
    pick (ltb at stop) (row_at table at stop ∷ siblings_within fuel table (next_sibling table at stop) stop) []

unfoldable pub siblings_from : List ℕ → ℕ → ℕ → List Row
siblings_from table at stop = siblings_within (stop - at) table at stop
