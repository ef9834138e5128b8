-- Whatever bytes and index hold: the table that is laid and the list of tags stay as long as they were lent, and no more than 1,024 tags are
-- listed. So what is read through memory of any content stays within what is lent.
use Rattle.std.specs.Prelude.{◌≡◌, Bool, List, ℕ, zero, suc, ◌+◌, ◌-◌, ◌≤◌, set, eqb}
use Rattle.std.proofs.Math.Path.{refl}
use Rattle.std.proofs.Common.{sym, ap, ◌∙◌, arith, Option, Some, None}
use Rattle.std.proofs.Math.Bool.{true, false}
use Rattle.std.proofs.Math.ListN.{length, length-set}
use Rattle.std.proofs.Math.Dec.{leb}
use borrow.Author.Tests.{leb-false}
use Rattle.field_rules.specs.Choice.{pick}
use Rattle.dictionary_rules.specs.Index.{component_at}
use Rattle.dictionary_rules.specs.Record.{record_at}
use Rattle.dictionary_rules.specs.declared.Record.{Record}
use Rattle.dictionary_rules.specs.declared.Record.TheVariants.{KnownTag, OpensComponent, OpensMessage, FieldItem, ComponentItem, OpensGroup, Closes}
use Rattle.dictionary_rules.specs.declared.RecordRead.{RecordRead}
use Rattle.dictionary_rules.specs.declared.RecordRead.TheVariants.{Whole, Bad, End}
use Rattle.dictionary_meaning_rules.specs.Laying.{Laying, laying, Step, stands_at, put_row, after_group, after_component, on_component, on_record, on_read, items_within, items_from, lay_items}
use Rattle.dictionary_meaning_rules.proofs.LayingLaws.{put-length}
use Rattle.dictionary_meaning_rules.specs.MessageTable.{most_calls, Tabling, tabling, as_table, placed_table}
use Rattle.dictionary_meaning_rules.specs.PlainTags.{Listing, listing, TagStep, tag_on, tag_read, tags_within, tags_from, component_tags, plain_tags}
use Rattle.dictionary_meaning_rules.specs.declared.MessageTable.{MessageTable}
use Rattle.dictionary_rules.specs.declared.Component.{Component}

-- ===== the table =====

unfoldable table_of : Laying → List ℕ
table_of (laying laid table) = table

abbrev Keeping : Step → Type 0
Keeping step = (at row : ℕ) (table : List ℕ) → length (table_of (step at row table)) ≡ length table

module _ (inner rest : Step) (within : Keeping inner) (goes : Keeping rest) where
  group_keeps : (row tag : ℕ) (required : Bool) (outcome : Laying) → length (table_of (after_group rest row tag required outcome)) ≡ length (table_of outcome)
  unfolding after_group table_of
  group_keeps row tag required (laying None table) = refl
  group_keeps row tag required (laying (Some (after, end)) table) = go (leb end (row + 1))
    where
      go : (empty : Bool) → length (table_of (pick empty (laying None table) (rest after end (put_row table row tag required true end)))) ≡ length table
      go true = refl
      go false = goes after end (put_row table row tag required true end) ∙ put-length table row tag required true end

  component_keeps : (next row : ℕ) (table : List ℕ) (stands : Option ℕ) → length (table_of (on_component inner rest next row table stands)) ≡ length table
  unfolding on_component after_component table_of
  component_keeps next row table None = goes next row table
  component_keeps next row table (Some place) = after (inner place row table) ∙ within place row table
    where
      after : (outcome : Laying) → length (table_of (after_component rest next row outcome)) ≡ length (table_of outcome)
      after (laying None table₁) = refl
      after (laying (Some (a, end)) table₁) = go (leb end row)
        where
          go : (still : Bool) → length (table_of (pick still (laying None table₁) (rest next end table₁))) ≡ length table₁
          go true = refl
          go false = goes next end table₁

  record_keeps : (components : ℕ → Option Component) (row next : ℕ) (table : List ℕ) (r : Record) → length (table_of (on_record inner rest components row table r next)) ≡ length table
  unfolding on_record table_of
  record_keeps components row next table (FieldItem tag required) = go (leb 1024 row)
    where
      go : (full : Bool) → length (table_of (pick full (laying None table) (rest next (row + 1) (put_row table row tag required false (row + 1))))) ≡ length table
      go true = refl
      go false = goes next (row + 1) (put_row table row tag required false (row + 1)) ∙ put-length table row tag required false (row + 1)
  record_keeps components row next table (OpensGroup tag required) = go (leb 1024 row)
    where
      go : (full : Bool) → length (table_of (pick full (laying None table) (after_group rest row tag required (inner next (row + 1) table)))) ≡ length table
      go true = refl
      go false = group_keeps row tag required (inner next (row + 1) table) ∙ within next (row + 1) table
  record_keeps components row next table (ComponentItem required number) = component_keeps next row table (stands_at components number)
  record_keeps components row next table Closes = refl
  record_keeps components row next table (KnownTag tag) = refl
  record_keeps components row next table (OpensComponent number) = refl
  record_keeps components row next table (OpensMessage msg_type) = refl

  read_keeps : (components : ℕ → Option Component) (row : ℕ) (table : List ℕ) (read : RecordRead) → length (table_of (on_read inner rest components row table read)) ≡ length table
  unfolding on_read table_of
  read_keeps components row table (Whole r next) = record_keeps components row next table r
  read_keeps components row table Bad = refl
  read_keeps components row table End = refl

items_keep : (fuel : ℕ) (inner : Step) (bytes : List ℕ) (components : ℕ → Option Component) → Keeping inner → Keeping (items_within fuel inner bytes components)
unfolding items_within table_of
items_keep zero inner bytes components within at row table = refl
items_keep (suc fuel) inner bytes components within at row table =
    read_keeps inner (items_within fuel inner bytes components) within (items_keep fuel inner bytes components within) components row table (record_at bytes at)

lay_keeps : (depth : ℕ) (bytes : List ℕ) (components : ℕ → Option Component) → Keeping (lay_items depth bytes components)
unfolding lay_items items_from table_of
lay_keeps zero bytes components at row table = refl
lay_keeps (suc depth) bytes components at row table = items_keep (length bytes - at) (lay_items depth bytes components) bytes components (lay_keeps depth bytes components) at row table

unfoldable rows_of : Tabling → List ℕ
rows_of (tabling answer rows) = rows

as_keeps : (outcome : Laying) → rows_of (as_table outcome) ≡ table_of outcome
unfolding as_table rows_of table_of
as_keeps (laying None table) = refl
as_keeps (laying (Some (after, rows)) table) = refl

-- the table of a message is as long as the one that was lent
pub table_kept : (d index : List ℕ) (placed : Option ℕ) (table : List ℕ) (answer : MessageTable) (written : List ℕ) → tabling answer written ≡ placed_table d index placed table → length table ≡ length written
unfolding placed_table rows_of
table_kept d index placed table answer written told = sym (ap (λ (t : Tabling). length (rows_of t)) told ∙ by_place placed)
  where
    by_place : (p : Option ℕ) → length (rows_of (placed_table d index p table)) ≡ length table
    by_place None = refl
    by_place (Some place) = ap length (as_keeps (lay_items most_calls d (component_at index) (place + 9) 0 table)) ∙ lay_keeps most_calls d (component_at index) (place + 9) 0 table

-- ===== the list of tags =====

-- as long as it was, with no more tags than there is room for
data Few (size : ℕ) : Listing → Type 0 where
  few : {count : ℕ} {tags : List ℕ} → count ≤ 1024 → length tags ≡ size → Few size (listing (Some count) tags)
  unlisted : {tags : List ℕ} → length tags ≡ size → Few size (listing None tags)

abbrev Listing-few : TagStep → Type 0
Listing-few step = (at groups count : ℕ) (tags : List ℕ) → count ≤ 1024 → Few (length tags) (step at groups count tags)

module _ (rest : TagStep) (goes : Listing-few rest) (groups count : ℕ) (tags : List ℕ) (h : count ≤ 1024) where
  tag-few : (r : Record) (next : ℕ) → Few (length tags) (tag_on rest groups count tags r next)
  unfolding tag_on
  tag-few (FieldItem tag required) next = go (eqb groups 0) (leb 1024 count) refl
    where
      go : (top full : Bool) → leb 1024 count ≡ full → Few (length tags) (pick top (pick full (listing None tags) (rest next groups (count + 1) (set tags count tag))) (rest next groups count tags))
      go true true q = unlisted refl
      go true false q = rw length-set at (goes next groups (count + 1) (set tags count tag) (omega (arith, leb-false 1024 count q)))
      go false full q = goes next groups count tags h
  tag-few (ComponentItem required number) next = goes next groups count tags h
  tag-few (OpensGroup tag required) next = goes next (groups + 1) count tags h
  tag-few Closes next = go (eqb groups 0)
    where
      go : (top : Bool) → Few (length tags) (pick top (listing (Some count) tags) (rest next (groups - 1) count tags))
      go true = few h refl
      go false = goes next (groups - 1) count tags h
  tag-few (KnownTag tag) next = unlisted refl
  tag-few (OpensComponent number) next = unlisted refl
  tag-few (OpensMessage msg_type) next = unlisted refl

  read-few : (read : RecordRead) → Few (length tags) (tag_read rest groups count tags read)
  unfolding tag_read
  read-few (Whole r next) = tag-few r next
  read-few Bad = unlisted refl
  read-few End = unlisted refl

tags-few : (fuel : ℕ) (d : List ℕ) → Listing-few (tags_within fuel d)
unfolding tags_within
tags-few zero d at groups count tags h = unlisted refl
tags-few (suc fuel) d at groups count tags h = read-few (tags_within fuel d) (tags-few fuel d) groups count tags h (record_at d at)

plain-few : (d index : List ℕ) (number : ℕ) (tags : List ℕ) → Few (length tags) (plain_tags d index number tags)
unfolding plain_tags component_tags tags_from
plain-few d index number tags = go (component_at index number)
  where
    go : (looked : Option Component) → Few (length tags) (component_tags d looked tags)
    go None = unlisted refl
    go (Some c) = tags-few (length d - (c.place + 3)) d (c.place + 3) 0 0 tags (omega arith)

-- the tags that are listed lie in the list, if it has room for 1,024
pub tags_kept : (d index : List ℕ) (number : ℕ) (tags : List ℕ) → 1024 ≤ length tags → (count : ℕ) (exit : List ℕ) → listing (Some count) exit ≡ plain_tags d index number tags → count ≤ length exit
tags_kept d index number tags room count exit told = go (rw (← told) at (plain-few d index number tags))
  where
    go : Few (length tags) (listing (Some count) exit) → count ≤ length exit
    go (few h size) = omega arith
