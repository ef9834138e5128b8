-- A list of tags as a table: that of a layout which has just these tags as plain items, so that one probe says whether a tag is among them.
-- Any words at all stand for a list of tags: those of the items that lie in them and that a look-up finds.
use Rattle.std.specs.Prelude.{ℕ, zero, suc, ◌+◌, List, [], ◌∷◌, Bool, true, false, length, Option, Some, None}
use Rattle.field_rules.specs.Choice.{pick}
use Rattle.dictionary_layout_rules.specs.Layout.{Layout, end, field}
use Rattle.dictionary_tables_rules.specs.Table.{items_at, item_at, lies, tag_at, item_of}

-- a layout of plain fields
unfoldable pub fields_of : List ℕ → Layout
fields_of [] = end
fields_of (tag ∷ tags) = field tag false (fields_of tags)

-- where the item of a link starts, of the table's first level
abbrev pub place_at : List ℕ → ℕ → ℕ
place_at table link = item_at (items_at table 0) link

-- the tags of the items that lie in a table, from a link on; an item has words of its own, so the fuel is how many there are
unfoldable pub item_tags : ℕ → List ℕ → ℕ → List ℕ
item_tags zero table link = []
item_tags (suc fuel) table link = pick (lies table (place_at table link)) (tag_at table (place_at table link) ∷ item_tags fuel table (link + 1)) []

-- what a look-up finds is an item
unfoldable pub is_item : Option (ℕ × ℕ) → Bool
is_item (Some (position, group)) = true
is_item None = false

-- those of some tags that a look-up finds
unfoldable pub found_of : List ℕ → List ℕ → List ℕ
found_of table [] = []
found_of table (tag ∷ tags) = pick (is_item (item_of table 0 tag)) (tag ∷ found_of table tags) (found_of table tags)

-- the tags that a table stands for
unfoldable pub tags_found : List ℕ → List ℕ
tags_found table = found_of table (item_tags (length table) table 1)
