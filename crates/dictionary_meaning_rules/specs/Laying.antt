-- Flattening as the code does it: one record at a time, each item into the next free row of the table. Whatever bytes, index and table
-- hold, this has an outcome: items that can't be read, a table that is full, a group or a component without a row, or a depth that is
-- used up make it broken.
use Rattle.std.specs.Prelude.{ℕ, zero, suc, ◌+◌, ◌-◌, ◌*◌, ◌/◌, ◌%◌, List, Bool, true, false, length, set, eqb, leb, Option, Some, None}
use Rattle.field_rules.specs.Choice.{pick}
use Rattle.dictionary_layout_rules.specs.Table.{marks}
use Rattle.dictionary_rules.specs.declared.Component.{Component}
use Rattle.dictionary_rules.specs.Record.{record_at}
use Rattle.dictionary_rules.specs.declared.Record.{Record}
use Rattle.dictionary_rules.specs.declared.Record.TheVariants.{KnownTag, OpensComponent, OpensMessage, FieldItem, ComponentItem, OpensGroup, Closes}
use Rattle.dictionary_rules.specs.declared.RecordRead.{RecordRead}
use Rattle.dictionary_rules.specs.declared.RecordRead.TheVariants.{Whole, Bad, End}

-- How far flattening came, and what the table holds then. What the dictionary's components are is looked up by number.
pub data Laying : Type 0 where
  laying : Option (ℕ × ℕ) → List ℕ → Laying

-- a step that may be taken at a place, with the next free row and the table so far
abbrev pub Step : Type 0
Step = ℕ → ℕ → List ℕ → Laying

-- a component's items stand behind the record of three bytes that opens it
unfoldable pub behind_opening : Option Component → Option ℕ
behind_opening None = None
behind_opening (Some c) = Some (c.place + 3)

-- an empty component is skipped, and one that only stands for another leads to it
unfoldable pub expanding : (ℕ → Option Component) → Option Component → Option ℕ
expanding components None = None
expanding components (Some c) = pick (eqb c.items 0) None (behind_opening (components c.stands))

unfoldable pub stands_at : (ℕ → Option Component) → ℕ → Option ℕ
stands_at components number = expanding components (components number)

-- a row holds the low and the high half of the tag, the marks, and where what belongs to it ends
unfoldable pub put_row : List ℕ → ℕ → ℕ → Bool → Bool → ℕ → List ℕ
put_row table row tag required is_group link =
    set (set (set (set table (4 * row) (tag % 65536)) (4 * row + 1) (tag / 65536)) (4 * row + 2) (marks required is_group)) (4 * row + 3) link

-- a group's row is written once its entries are; "group closes empty after flattening" is refused (34), so only forged content has one
unfoldable pub after_group : Step → ℕ → ℕ → Bool → Laying → Laying
after_group rest row tag required (laying None table) = laying None table
after_group rest row tag required (laying (Some (after, end)) table) =
    pick (leb end (row + 1)) (laying None table) (rest after end (put_row table row tag required true end))

-- "Components are flattened in place"; a component that has items adds a row, so that what is laid grows with each step down
unfoldable pub after_component : Step → ℕ → ℕ → Laying → Laying
after_component rest next row (laying None table) = laying None table
after_component rest next row (laying (Some (after, end)) table) = pick (leb end row) (laying None table) (rest next end table)

unfoldable pub on_component : Step → Step → ℕ → ℕ → List ℕ → Option ℕ → Laying
on_component inner rest next row table None = rest next row table
on_component inner rest next row table (Some place) = after_component rest next row (inner place row table)

unfoldable pub on_record : Step → Step → (ℕ → Option Component) → ℕ → List ℕ → Record → ℕ → Laying
on_record inner rest components row table (FieldItem tag required) next =
    pick (leb 1024 row) (laying None table) (rest next (row + 1) (put_row table row tag required false (row + 1)))
on_record inner rest components row table (OpensGroup tag required) next =
    pick (leb 1024 row) (laying None table) (after_group rest row tag required (inner next (row + 1) table))
on_record inner rest components row table (ComponentItem required number) next =
    on_component inner rest next row table (stands_at components number)
on_record inner rest components row table Closes next = laying (Some (next, row)) table
on_record inner rest components row table (KnownTag tag) next = laying None table
on_record inner rest components row table (OpensComponent number) next = laying None table
on_record inner rest components row table (OpensMessage msg_type) next = laying None table

unfoldable pub on_read : Step → Step → (ℕ → Option Component) → ℕ → List ℕ → RecordRead → Laying
on_read inner rest components row table (Whole r next) = on_record inner rest components row table r next
on_read inner rest components row table Bad = laying None table
on_read inner rest components row table End = laying None table

-- one record after the other; `inner` lays what lies within; places rise, so the fuel is what lies before the end
unfoldable pub items_within : ℕ → Step → List ℕ → (ℕ → Option Component) → Step
items_within zero inner bytes components at row table = laying None table
items_within (suc fuel) inner bytes components at row table =
    on_read inner (items_within fuel inner bytes components) components row table (record_at bytes at)

unfoldable pub items_from : Step → List ℕ → (ℕ → Option Component) → Step
items_from inner bytes components at row table = items_within (length bytes - at) inner bytes components at row table

-- "the open depth falling"
unfoldable pub lay_items : ℕ → List ℕ → (ℕ → Option Component) → Step
lay_items zero bytes components at row table = laying None table
lay_items (suc depth) bytes components at row table = items_from (lay_items depth bytes components) bytes components at row table
