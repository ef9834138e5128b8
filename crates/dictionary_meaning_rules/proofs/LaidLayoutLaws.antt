-- Laws of what specs/LaidLayout.antt defines.
use Rattle.std.specs.Prelude.{◌≡◌, Bool, List, ℕ, zero, suc, ◌+◌, ◌-◌, ◌≤◌, ◌<◌, length}
use Rattle.std.proofs.Math.Path.{refl, ap}
use Rattle.std.proofs.Common.{sym, ◌∙◌, subst, arith, leb-false, Option, Some, None}
use Rattle.std.proofs.Math.Bool.{true, false}
use Rattle.std.proofs.Math.Dec.{leb}
use Rattle.field_rules.specs.Choice.{pick}
use Rattle.dictionary_layout_rules.specs.Layout.{Layout, end, field, group, followed_by, items}
use Rattle.dictionary_layout_rules.specs.Measures.{NoEmptyGroup, none-at_end, none-after-field, none_in_group}
use Rattle.dictionary_layout_rules.proofs.MeasuresLaws.{filled-followed}
use Rattle.dictionary_layout_rules.specs.Tabled.{RowsStand}
use Rattle.dictionary_rules.specs.Index.{component_at}
use Rattle.dictionary_rules.specs.Record.{record_at}
use Rattle.dictionary_rules.specs.declared.Record.{Record}
use Rattle.dictionary_rules.specs.declared.Record.TheVariants.{KnownTag, OpensComponent, OpensMessage, FieldItem, ComponentItem, OpensGroup, Closes}
use Rattle.dictionary_rules.specs.declared.RecordRead.{RecordRead}
use Rattle.dictionary_rules.specs.declared.RecordRead.TheVariants.{Whole, Bad, End}
use Rattle.dictionary_meaning_rules.specs.Laying.{Laying, laying, Step, stands_at, put_row, after_group, after_component, on_component, on_record, on_read, items_within, items_from, lay_items}
use Rattle.dictionary_meaning_rules.proofs.LayingLaws.{Advances, reaches, lay_advances}
use Rattle.dictionary_meaning_rules.proofs.Written.{written, items-followed, written-followed, written_stands}
use Rattle.dictionary_meaning_rules.specs.MessageTable.{most_calls, tabling, as_table, placed_table}
use Rattle.dictionary_meaning_rules.specs.declared.MessageTable.TheVariants.{Rows}
use Rattle.dictionary_meaning_rules.specs.LaidLayout.{LaidAs}
use Rattle.dictionary_rules.specs.declared.Component.{Component}

-- laying broke off, or a layout with no empty group was written from a row on
pub data Writes (row : ℕ) (table : List ℕ) : Laying → Type 0 where
  breaks_off : {within : List ℕ} → Writes row table (laying None within)
  writes : {after upto : ℕ} {within : List ℕ} (layout : Layout) → NoEmptyGroup layout → upto ≡ row + items layout → within ≡ written row layout table →
      Writes row table (laying (Some (after, upto)) within)

abbrev pub Writing : Step → Type 0
Writing step = (at row : ℕ) (table : List ℕ) → Writes row table (step at row table)

-- what is written after an item, or after a layout, is written with it
module _ (row : ℕ) (table : List ℕ) where
  close-writes : (after : ℕ) → Writes row table (laying (Some (after, row)) table)
  unfolding written items
  close-writes after = writes {upto = row} end none-at_end (omega arith) refl

  field-writes : (tag : ℕ) (required : Bool) {outcome : Laying} →
      Writes (row + 1) (put_row table row tag required false (row + 1)) outcome → Writes row table outcome
  unfolding written items
  field-writes tag required breaks_off = breaks_off
  field-writes tag required (writes {upto = last} layout f e w) = writes {upto = last} (field tag required layout) (none-after-field f) (omega arith) w

  group-writes : (tag : ℕ) (required : Bool) (inner : Layout) (within : List ℕ) (upto : ℕ) {outcome : Laying} →
      row + 1 < upto → NoEmptyGroup inner → upto ≡ row + 1 + items inner → within ≡ written (row + 1) inner table →
      Writes upto (put_row within row tag required true upto) outcome → Writes row table outcome
  unfolding written items
  group-writes tag required inner within upto some filled q v breaks_off = breaks_off
  group-writes tag required inner within upto some filled q v (writes {upto = last} layout f e w) =
      let never : inner ≡ end → ⊥ = λ z. omega (arith, ap items z) in
      writes {upto = last} (group tag required inner layout) (none_in_group never filled f) (omega arith) (w ∙ rw (q, v))

  both_write : (first : Layout) (within : List ℕ) (upto : ℕ) {outcome : Laying} →
      NoEmptyGroup first → upto ≡ row + items first → within ≡ written row first table → Writes upto within outcome → Writes row table outcome
  both_write first within upto filled q v breaks_off = breaks_off
  both_write first within upto filled q v (writes {upto = last} layout f e w) =
      writes {upto = last} (followed_by first layout) (filled-followed filled f) (omega (arith, items-followed first layout))
      (w ∙ rw (q, v) (sym (written-followed row first layout table)))

module _ (inner rest : Step) (within : Writing inner) (goes : Writing rest) where
  after_group_lem : (row tag : ℕ) (required : Bool) (table : List ℕ) (outcome : Laying) →
      Writes (row + 1) table outcome → Writes row table (after_group rest row tag required outcome)
  unfolding after_group
  after_group_lem row tag required table (laying None laid) breaks_off = breaks_off
  after_group_lem row tag required table (laying (Some (after, upto)) laid) (writes layout f e w) = go (leb upto (row + 1)) refl
    where
      go : (empty : Bool) → leb upto (row + 1) ≡ empty →
          Writes row table (pick empty (laying None laid) (rest after upto (put_row laid row tag required true upto)))
      go true q = breaks_off
      go false q =
          group-writes row table tag required layout laid upto (leb-false upto (row + 1) q) f e w (goes after upto (put_row laid row tag required true upto))

  after_component_lem : (next row : ℕ) (table : List ℕ) (outcome : Laying) → Writes row table outcome → Writes row table (after_component rest next row outcome)
  unfolding after_component
  after_component_lem next row table (laying None laid) breaks_off = breaks_off
  after_component_lem next row table (laying (Some (after, upto)) laid) (writes layout f e w) = go (leb upto row)
    where
      go : (still : Bool) → Writes row table (pick still (laying None laid) (rest next upto laid))
      go true = breaks_off
      go false = both_write row table layout laid upto f e w (goes next upto laid)

  component-writes : (next row : ℕ) (table : List ℕ) (stands : Option ℕ) → Writes row table (on_component inner rest next row table stands)
  unfolding on_component
  component-writes next row table None = goes next row table
  component-writes next row table (Some place) = after_component_lem next row table (inner place row table) (within place row table)

  record_writes : (components : ℕ → Option Component) (row next : ℕ) (table : List ℕ) (r : Record) → Writes row table (on_record inner rest components row table r next)
  unfolding on_record
  record_writes components row next table (FieldItem tag required) = go (leb 1024 row)
    where
      go : (full : Bool) → Writes row table (pick full (laying None table) (rest next (row + 1) (put_row table row tag required false (row + 1))))
      go true = breaks_off
      go false = field-writes row table tag required (goes next (row + 1) (put_row table row tag required false (row + 1)))
  record_writes components row next table (OpensGroup tag required) = go (leb 1024 row)
    where
      go : (full : Bool) → Writes row table (pick full (laying None table) (after_group rest row tag required (inner next (row + 1) table)))
      go true = breaks_off
      go false = after_group_lem row tag required table (inner next (row + 1) table) (within next (row + 1) table)
  record_writes components row next table (ComponentItem required number) = component-writes next row table (stands_at components number)
  record_writes components row next table Closes = close-writes row table next
  record_writes components row next table (KnownTag tag) = breaks_off
  record_writes components row next table (OpensComponent number) = breaks_off
  record_writes components row next table (OpensMessage msg_type) = breaks_off

  read-writes : (components : ℕ → Option Component) (row : ℕ) (table : List ℕ) (read : RecordRead) → Writes row table (on_read inner rest components row table read)
  unfolding on_read
  read-writes components row table (Whole r next) = record_writes components row next table r
  read-writes components row table Bad = breaks_off
  read-writes components row table End = breaks_off

items_write : (fuel : ℕ) (inner : Step) (bytes : List ℕ) (components : ℕ → Option Component) → Writing inner → Writing (items_within fuel inner bytes components)
unfolding items_within
items_write zero inner bytes components within at row table = breaks_off
items_write (suc fuel) inner bytes components within at row table =
    read-writes inner (items_within fuel inner bytes components) within (items_write fuel inner bytes components within) components row table (record_at bytes at)

pub lay_writes : (depth : ℕ) (bytes : List ℕ) (components : ℕ → Option Component) → Writing (lay_items depth bytes components)
unfolding lay_items items_from
lay_writes zero bytes components at row table = breaks_off
lay_writes (suc depth) bytes components at row table =
    items_write (length bytes - at) (lay_items depth bytes components) bytes components (lay_writes depth bytes components) at row table

-- what is laid from the first row on, in a table that has room for 1,024
outcome_layout : (limit at : ℕ) (table rows : List ℕ) (count : ℕ) (outcome : Laying) → 4096 ≤ length table →
    Writes 0 table outcome → Advances limit at 0 outcome → tabling (Rows count) rows ≡ as_table outcome → LaidAs rows count
unfolding as_table
outcome_layout limit at table rows count (laying None laid) room w a told = let z : ◌≡◌ {A = ℕ} 0 1 = cc in absurd (omega arith)
outcome_layout limit at table rows count (laying (Some (after, upto)) laid) room (writes layout f e w) (reaches x y l m) told =
    let counted : count ≡ upto = cc in
    let same : written 0 layout table ≡ rows = cc in
    record {
      layout = layout;
      tabled = record { stands = subst (λ (t : List ℕ). RowsStand t 0 layout) same (written_stands 0 layout table (omega arith)); ends = omega arith };
      limit = omega arith;
      filled = f;
    }

pub placed_layout : (d index : List ℕ) (place : ℕ) (table rows : List ℕ) (count : ℕ) → 4096 ≤ length table →
    tabling (Rows count) rows ≡ placed_table d index (Some place) table → LaidAs rows count
unfolding placed_table
placed_layout d index place table rows count room told =
    outcome_layout (length d) (place + 9) table rows count (lay_items most_calls d (component_at index) (place + 9) 0 table) room
    (lay_writes most_calls d (component_at index) (place + 9) 0 table) (lay_advances most_calls d (component_at index) (place + 9) 0 table (omega arith)) told
