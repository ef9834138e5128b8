-- Rows that hold a layout, one item after the other: what a row says, where what follows stands, and how many a level has.
use Rattle.std.specs.Prelude.{◌≡◌, refl, Bool, true, false, List, ◌++◌, ℕ, ◌+◌, ◌≤◌, ◌<◌, length}
use Rattle.std.proofs.Common.{ap, ◌∙◌, arith}
use Rattle.dictionary_layout_rules.specs.Layout.{Layout, end, field, group, items}
use Rattle.dictionary_layout_rules.specs.Table.{rows_from, next_sibling, siblings_from}
use Rattle.dictionary_layout_rules.proofs.TableLaws.{walk-on, walk_end}
use Rattle.dictionary_layout_rules.specs.Tabled.{RowSays, RowsStand, own_rows, Tabled}
use Rattle.dictionary_layout_rules.proofs.TabledLaws.{row_says, own_rows_lem}
use Rattle.dictionary_tables_rules.specs.Laid.{own_count}

-- what the row of an item says
pub field_says : (table : List ℕ) (at tag : ℕ) (required : Bool) (rest : Layout) → RowsStand table at (field tag required rest) →
    RowSays table at tag required false (at + 1)
unfolding rows_from
field_says table at tag required rest s = row_says table s.before (rows_from (at + 1) rest ++ s.after) at tag required false (at + 1) s.whole s.start

pub group_says : (table : List ℕ) (at tag : ℕ) (required : Bool) (inner rest : Layout) → RowsStand table at (group tag required inner rest) →
    RowSays table at tag required true (at + 1 + items inner)
unfolding rows_from
group_says table at tag required inner rest s =
    row_says table s.before ((rows_from (at + 1) inner ++ rows_from (at + 1 + items inner) rest) ++ s.after) at tag required true (at + 1 + items inner)
    s.whole s.start

own_rows-length : (at : ℕ) (layout : Layout) → length (own_rows at layout) ≡ own_count layout
unfolding own_rows own_count
own_rows-length at end = refl
own_rows-length at (field tag required rest) = omega (arith, own_rows-length (at + 1) rest)
own_rows-length at (group tag required inner rest) = omega (arith, own_rows-length (at + 1 + items inner) rest)

-- a level's rows are its own items
pub rows_counted : (table : List ℕ) (first stop : ℕ) (layout : Layout) → Tabled table (record { first = first; end = stop }) layout →
    length (siblings_from table first stop) ≡ own_count layout
rows_counted table first stop layout t = ap length (own_rows_lem table first stop layout t.stands t.ends) ∙ own_rows-length first layout

-- a level's rows are counted one by one
pub counted-on : (table : List ℕ) (at stop : ℕ) → at < stop →
    length (siblings_from table at stop) ≡ 1 + length (siblings_from table (next_sibling table at stop) stop)
counted-on table at stop h = rw (walk-on table at stop h) (omega arith)

pub counted-end : (table : List ℕ) (at stop : ℕ) → stop ≤ at → length (siblings_from table at stop) ≡ 0
counted-end table at stop h = rw (walk_end table at stop h)
