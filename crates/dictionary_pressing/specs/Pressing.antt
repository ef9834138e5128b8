-- Pressing a layout into a table as the code does it: a level's items are written one after the other, each group's level at the next free words.
-- What the words of each level are in the end is said apart from how they are written.
use Rattle.std.specs.Prelude.{ℕ, ◌+◌, ◌*◌, ◌/◌, ◌%◌, ◌≤◌, ◌<◌, ◌≡◌, Bool, List, [], ◌∷◌, ◌++◌, length, set, take, drop}
use Rattle.dictionary_layout_rules.specs.Layout.{Layout, end, field, group, items}
use Rattle.dictionary_layout_rules.specs.Table.{mark}
use Rattle.dictionary_layout_rules.specs.Tabled.{RowsStand, Tabled}
use Rattle.dictionary_pressing.specs.Linking.{items_start}
use Rattle.dictionary_tables_rules.specs.Laid.{Own, own_count, part_size, inner_size, table_size, level_words}

-- an item as it is written
unfoldable pub put_item : List ℕ → ℕ → ℕ → ℕ → Bool → List ℕ
put_item table at tag leads required =
    set (set (set (set (set table at (tag % 65536)) (at + 1) (tag / 65536)) (at + 2) leads) (at + 3) (mark required)) (at + 4) 0

-- a level with all that is within, written over what the table has from the word `level` on
unfoldable pub pressed : ℕ → Layout → List ℕ → List ℕ
pressed level layout table = take level table ++ (level_words level layout ++ drop (level + table_size layout) table)

-- the items from the word `slot` on, and their groups' levels from the word `free` on
unfoldable pub press_items : ℕ → ℕ → Layout → List ℕ → List ℕ
press_items slot free end table = table
press_items slot free (field tag required rest) table = press_items (slot + 5) free rest (put_item table slot tag 0 required)
press_items slot free (group tag required inner rest) table =
    press_items (slot + 5) (free + table_size inner) rest (pressed free inner (put_item table slot tag free required))

-- Rows hold a layout, and so many words have room for it from the word `level` on.
pub record Pressing (rows : List ℕ) (first stop words level : ℕ) : Type 0 where
  pub layout : Layout
  pub tabled : Tabled rows (record { first = first; end = stop }) layout
  pub room : level + table_size layout ≤ words
  pub small : level + table_size layout < 65536

-- It was written, and the words behind it start where it ends.
pub record Pressed (level : ℕ) (layout : Layout) (was is : List ℕ) (next : ℕ) : Type 0 where
  pub ends : next ≡ level + table_size layout
  pub words : is ≡ pressed level layout was

-- items that are written and not yet linked
unfoldable pub raw_item : Own → List ℕ
raw_item own = (own.tag % 65536) ∷ (own.tag / 65536) ∷ own.group ∷ mark own.required ∷ 0 ∷ []

unfoldable pub raw_items : List Own → List ℕ
raw_items [] = []
raw_items (own ∷ owns) = raw_item own ++ raw_items owns

-- How far a level's items are written: what is left of its layout stands in the rows from `at` on, and goes to the words from `slot` and `free` on.
pub record Forward (rows start table : List ℕ) (first stop level at slot free : ℕ) (layout : Layout) : Type 0 where
  pub rest : Layout
  pub stands : RowsStand rows at rest
  pub ends : stop ≡ at + items rest
  pub since : first ≤ at
  pub slots : slot + 5 * own_count rest ≡ level + part_size (own_count layout)
  pub frees : free + inner_size rest ≡ level + table_size layout
  pub above : level + part_size (own_count layout) ≤ free
  pub kept : length table ≡ length start
  pub sofar : press_items (items_start level (own_count layout)) (level + part_size (own_count layout)) layout start ≡ press_items slot free rest table

-- Rows hold a layout, and so many words have room for its table, each of which a word can lead to.
pub record Pressable (rows : List ℕ) (count words : ℕ) : Type 0 where
  pub layout : Layout
  pub tabled : Tabled rows (record { first = 0; end = count }) layout
  pub room : table_size layout ≤ words
  pub small : table_size layout < 65536
