-- The layout that a table's rows hold, read back from the rows themselves, for any content of the table.
-- Rows that were made of a layout hold that layout.
use Rattle.std.specs.Prelude.{List, ℕ, zero, suc, ◌+◌, eqb, ltb}
use Rattle.field_rules.specs.Choice.{pick}
use Rattle.dictionary_layout_rules.specs.Layout.{Layout, end, field, group}
use Rattle.dictionary_layout_rules.specs.Table.{tag_at, required_at, group_at, link_at, next_sibling}

-- the layout that rows hold from one on, before the row `stop`; rows rise, so the fuel is what lies between
unfoldable pub layout_within : ℕ → List ℕ → ℕ → ℕ → Layout
layout_within zero table at stop = end
layout_within (suc fuel) table at stop =
    pick (ltb at stop)
    (pick (eqb (group_at table at) 1)
    (group (tag_at table at) (eqb (required_at table at) 1)
    (layout_within fuel table (at + 1) (link_at table at)) (layout_within fuel table (next_sibling table at stop) stop))
    (field (tag_at table at) (eqb (required_at table at) 1) (layout_within fuel table (next_sibling table at stop) stop)))
    end

-- the layout of the first rows
unfoldable pub layout_in : List ℕ → ℕ → Layout
layout_in table count = layout_within count table 0 count
