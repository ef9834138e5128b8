-- Whatever bytes and index hold: what is laid to its end is a layout with no empty group, written from the row on where laying began.
-- So the rows of a message's table hold such a layout of 1,024 items at the most, even where the dictionary was never checked.
use Rattle.std.specs.Prelude.{List, ℕ, ◌≤◌}
use Rattle.dictionary_layout_rules.specs.Layout.{Layout, end, items}
use Rattle.dictionary_layout_rules.specs.Measures.{NoEmptyGroup}
use Rattle.dictionary_layout_rules.specs.Tabled.{Tabled}

-- the rows of a table hold a layout with no empty group
pub record LaidAs (rows : List ℕ) (count : ℕ) : Type 0 where
  pub layout : Layout
  pub tabled : Tabled rows (record { first = 0; end = count }) layout
  pub limit : items layout ≤ 1024
  pub filled : NoEmptyGroup layout
