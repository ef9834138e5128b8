-- The laws of flattening: each way that it goes at a record, for every content of bytes, index and table. Places rise, whatever lies
-- within, so the fuel never runs out; later proofs cite only these steps.
use Rattle.std.specs.Prelude.{◌≡◌, Bool}
use Rattle.std.proofs.Math.Path.{refl, sym}
use Rattle.std.proofs.Common.{◌∙◌, length-set, Option, Some, None, ℕ}
use Rattle.std.proofs.Math.Bool.{true, false}
use mathlib.Core.List.{List}
use Prim.Native.Nat.{ℕ, zero, suc, ◌+◌, ◌-◌, ◌≤◌, ◌<◌}
use native.Mathlib.Omega.{arith}
use Rattle.std.proofs.Math.ListN.{length}
use Rattle.std.proofs.Math.Dec.{leb}
use borrow.Author.Tests.{eq-eqb, ne_eqb, le-leb, lt-leb, leb-false}
use Rattle.field_rules.specs.Choice.{pick}
use Rattle.dictionary_rules.specs.declared.Component.{Component}
use Rattle.dictionary_rules.specs.Record.{record_at}
use Rattle.dictionary_rules.specs.RecordsLaws.{record_falls}
use Rattle.dictionary_rules.specs.declared.Record.{Record}
use Rattle.dictionary_rules.specs.declared.Record.TheVariants.{KnownTag, OpensComponent, OpensMessage, FieldItem, ComponentItem, OpensGroup, Closes}
use Rattle.dictionary_rules.specs.declared.RecordRead.{RecordRead}
use Rattle.dictionary_rules.specs.declared.RecordRead.TheVariants.{Whole, Bad, End}
use Rattle.dictionary_meaning_rules.specs.Laying.{Laying, laying, Step, behind_opening, expanding, stands_at, put_row, after_group, after_component, on_component, on_record, on_read, items_within, items_from, lay_items}

-- how far a step comes: past the place where it starts, no further than the bytes go, and no row is taken back or past the last
pub data Advances (limit at row : ℕ) : Laying → Type 0 where
  breaks : {table : List ℕ} → Advances limit at row (laying None table)
  reaches : {after end : ℕ} {table : List ℕ} → at < after → after ≤ limit → row ≤ end → end ≤ 1024 → Advances limit at row (laying (Some (after, end)) table)

abbrev pub Advancing : ℕ → Step → Type 0
Advancing limit step = (at row : ℕ) (table : List ℕ) → row ≤ 1024 → Advances limit at row (step at row table)

later : {limit at next row upto : ℕ} {outcome : Laying} → at < next → row ≤ upto → Advances limit next upto outcome → Advances limit at row outcome
later h r breaks = breaks
later {limit} {at} {next} {row} {upto} h r (reaches {after} {end} a b c d) =
    let past : at < after = omega arith in
    let more : row ≤ end = omega arith in
    reaches past b more d

module _ (limit : ℕ) (inner : Step) (rises : Advancing limit inner) (rest : Step) (goes : Advancing limit rest) where
  after_group_advances : (at row : ℕ) (outcome : Laying) (tag : ℕ) (required : Bool) → Advances limit at row outcome → Advances limit at row (after_group rest row tag required outcome)
  unfolding after_group
  after_group_advances at row (laying None table) tag required breaks = breaks
  after_group_advances at row (laying (Some (after, end)) table) tag required (reaches a b c d) = go (leb end (row + 1))
    where
      go : (empty : Bool) → Advances limit at row (pick empty (laying None table) (rest after end (put_row table row tag required true end)))
      go true = breaks
      go false = later a c (goes after end _ d)

  after_component_advances : (at row next place : ℕ) (outcome : Laying) → at < next → Advances limit place row outcome → Advances limit at row (after_component rest next row outcome)
  unfolding after_component
  after_component_advances at row next place (laying None table) h breaks = breaks
  after_component_advances at row next place (laying (Some (after, end)) table) h (reaches a b c d) = go (leb end row)
    where
      go : (still : Bool) → Advances limit at row (pick still (laying None table) (rest next end table))
      go true = breaks
      go false = later h c (goes next end _ d)

  component_advances : (at row next : ℕ) (table : List ℕ) (stands : Option ℕ) → at < next → row ≤ 1024 → Advances limit at row (on_component inner rest next row table stands)
  unfolding on_component
  component_advances at row next table None h r = later h (omega arith) (goes next row table r)
  component_advances at row next table (Some place) h r = after_component_advances at row next place _ h (rises place row table r)

  record_advances : (at row next : ℕ) (components : ℕ → Option Component) (table : List ℕ) (r : Record) → at < next → next ≤ limit → row ≤ 1024 → Advances limit at row (on_record inner rest components row table r next)
  unfolding on_record
  record_advances at row next components table (FieldItem tag required) h n r = go (leb 1024 row) refl
    where
      go : (t : Bool) → leb 1024 row ≡ t → Advances limit at row (pick t (laying None table) (rest next (row + 1) (put_row table row tag required false (row + 1))))
      go true e = breaks
      go false e = later h (omega arith) (goes next (row + 1) _ (omega (arith, leb-false 1024 row e)))
  record_advances at row next components table (OpensGroup tag required) h n r = go (leb 1024 row) refl
    where
      go : (t : Bool) → leb 1024 row ≡ t → Advances limit at row (pick t (laying None table) (after_group rest row tag required (inner next (row + 1) table)))
      go true e = breaks
      go false e = after_group_advances at row _ tag required (later h (omega arith) (rises next (row + 1) table (omega (arith, leb-false 1024 row e))))
  record_advances at row next components table (ComponentItem required number) h n r = component_advances at row next table (stands_at components number) h r
  record_advances at row next components table Closes h n r = let same : row ≤ row = omega arith in reaches h n same r
  record_advances at row next components table (KnownTag tag) h n r = breaks
  record_advances at row next components table (OpensComponent number) h n r = breaks
  record_advances at row next components table (OpensMessage msg_type) h n r = breaks

  read_advances : (at row : ℕ) (components : ℕ → Option Component) (table : List ℕ) (read : RecordRead) → ((r : Record) (next : ℕ) → read ≡ Whole r next → (at < next) × (next ≤ limit)) → row ≤ 1024 → Advances limit at row (on_read inner rest components row table read)
  unfolding on_read
  read_advances at row components table (Whole r next) n h = record_advances at row next components table r (n r next refl).0 (n r next refl).1 h
  read_advances at row components table Bad n h = breaks
  read_advances at row components table End n h = breaks

items_advance : (fuel : ℕ) (inner : Step) (bytes : List ℕ) (components : ℕ → Option Component) → Advancing (length bytes) inner → Advancing (length bytes) (items_within fuel inner bytes components)
unfolding items_within
items_advance zero inner bytes components rises at row table h = breaks
items_advance (suc fuel) inner bytes components rises at row table h =
    read_advances (length bytes) inner rises (items_within fuel inner bytes components) (items_advance fuel inner bytes components rises) at row components table (record_at bytes at) (record_falls bytes at) h

pub lay_advances : (depth : ℕ) (bytes : List ℕ) (components : ℕ → Option Component) → Advancing (length bytes) (lay_items depth bytes components)
unfolding lay_items items_from
lay_advances zero bytes components at row table h = breaks
lay_advances (suc depth) bytes components at row table h =
    items_advance (length bytes - at) (lay_items depth bytes components) bytes components (lay_advances depth bytes components) at row table h

-- two ways to go on that agree from a place on make the same of a record before it
module _ (limit : ℕ) (inner : Step) (rises : Advancing limit inner) (rest other : Step) (from : ℕ) (agree : (at row : ℕ) (table : List ℕ) → from ≤ at → rest at row table ≡ other at row table) where
  after_group_agrees : (row tag upto : ℕ) (required : Bool) (outcome : Laying) → Advances limit from upto outcome → after_group rest row tag required outcome ≡ after_group other row tag required outcome
  unfolding after_group
  after_group_agrees row tag upto required (laying None table) breaks = refl
  after_group_agrees row tag upto required (laying (Some (after, end)) table) (reaches a b c d) =
      rw (agree after end (put_row table row tag required true end) (omega arith))

  after_component_agrees : (row : ℕ) (outcome : Laying) → after_component rest from row outcome ≡ after_component other from row outcome
  unfolding after_component
  after_component_agrees row (laying None table) = refl
  after_component_agrees row (laying (Some (after, end)) table) = rw (agree from end table (omega arith))

  component_agrees : (row : ℕ) (table : List ℕ) (stands : Option ℕ) → on_component inner rest from row table stands ≡ on_component inner other from row table stands
  unfolding on_component
  component_agrees row table None = agree from row table (omega arith)
  component_agrees row table (Some place) = after_component_agrees row (inner place row table)

  record_agrees : (row : ℕ) (components : ℕ → Option Component) (table : List ℕ) (r : Record) → on_record inner rest components row table r from ≡ on_record inner other components row table r from
  unfolding on_record
  record_agrees row components table (FieldItem tag required) = rw (agree from (row + 1) (put_row table row tag required false (row + 1)) (omega arith))
  record_agrees row components table (OpensGroup tag required) = go (leb 1024 row) refl
    where
      go : (t : Bool) → leb 1024 row ≡ t → pick t (laying None table) (after_group rest row tag required (inner from (row + 1) table)) ≡ pick t (laying None table) (after_group other row tag required (inner from (row + 1) table))
      go true e = refl
      go false e = after_group_agrees row tag (row + 1) required (inner from (row + 1) table) (rises from (row + 1) table (omega (arith, leb-false 1024 row e)))
  record_agrees row components table (ComponentItem required number) = component_agrees row table (stands_at components number)
  record_agrees row components table Closes = refl
  record_agrees row components table (KnownTag tag) = refl
  record_agrees row components table (OpensComponent number) = refl
  record_agrees row components table (OpensMessage msg_type) = refl

-- at the end of the bytes nothing can be read
read_past : (inner rest : Step) (bytes : List ℕ) (components : ℕ → Option Component) (at row : ℕ) (table : List ℕ) → length bytes ≤ at → on_read inner rest components row table (record_at bytes at) ≡ laying None table
unfolding on_read
read_past inner rest bytes components at row table h = go (record_at bytes at) (record_falls bytes at)
  where
    go : (read : RecordRead) → ((r : Record) (next : ℕ) → read ≡ Whole r next → (at < next) × (next ≤ length bytes)) → on_read inner rest components row table read ≡ laying None table
    go (Whole r next) n = let w = n r next refl in absurd (omega arith)
    go Bad n = refl
    go End n = refl

module _ (inner : Step) (bytes : List ℕ) (components : ℕ → Option Component) (rises : Advancing (length bytes) inner) where
  fuel_agrees : (f g at row : ℕ) (table : List ℕ) → length bytes - at ≤ f → length bytes - at ≤ g → items_within f inner bytes components at row table ≡ items_within g inner bytes components at row table
  unfolding items_within
  fuel_agrees zero zero at row table p q = refl
  fuel_agrees zero (suc g) at row table p q = sym (read_past inner _ bytes components at row table (omega arith))
  fuel_agrees (suc f) zero at row table p q = read_past inner _ bytes components at row table (omega arith)
  fuel_agrees (suc f) (suc g) at row table p q = go (record_at bytes at) (record_falls bytes at) (fuel_agrees f g)
    where
      go : (read : RecordRead) → ((r : Record) (next : ℕ) → read ≡ Whole r next → (at < next) × (next ≤ length bytes)) → ((at row : ℕ) (table : List ℕ) →
          length bytes - at ≤ f → length bytes - at ≤ g → items_within f inner bytes components at row table
          ≡ items_within g inner bytes components at row table) → on_read inner (items_within f inner bytes components) components row table read
          ≡ on_read inner (items_within g inner bytes components) components row table read
      go (Whole r next) n again = let w = n r next refl in
          unfold on_read in record_agrees (length bytes) inner rises (items_within f inner bytes components) (items_within g inner bytes components) next (λ at₁ row₁ table₁ h. again at₁ row₁ table₁ (omega arith) (omega arith)) row components table r
      go Bad n again = unfold on_read in refl
      go End n again = unfold on_read in refl

  module _ (at row : ℕ) (table : List ℕ) where
    abbrev here : Laying
    here = items_from inner bytes components at row table

    abbrev go_on : Step
    go_on = items_from inner bytes components

    -- one record, and then the rest
    items-step : (r : Record) (next : ℕ) → record_at bytes at ≡ Whole r next → here ≡ on_record inner go_on components row table r next
    unfolding items_from
    items-step r next e =
        fuel_agrees (length bytes - at) (suc (length bytes)) at row table (omega arith) (omega arith)
        ∙ first
        ∙ record_agrees (length bytes) inner rises (items_within (length bytes) inner bytes components) go_on next (λ at₁ row₁ table₁ h. fuel_agrees (length bytes) (length bytes - at₁) at₁ row₁ table₁ (omega arith) (omega arith)) row components table r
      where
        first : items_within (suc (length bytes)) inner bytes components at row table ≡ on_record inner (items_within (length bytes) inner bytes components) components row table r next
        first = unfold items_within on_read in rw e

    module _ (tag : ℕ) (required : Bool) (next : ℕ) where
      pub lay_field : record_at bytes at ≡ Whole (FieldItem tag required) next → row < 1024 → here ≡ go_on next (row + 1) (put_row table row tag required false (row + 1))
      unfolding on_record
      lay_field e h = items-step _ _ e ∙ rw (lt-leb _ _ h)

      pub lay_field_full : record_at bytes at ≡ Whole (FieldItem tag required) next → 1024 ≤ row → here ≡ laying None table
      unfolding on_record
      lay_field_full e h = items-step _ _ e ∙ rw (le-leb _ _ h)

      pub lay_group_full : record_at bytes at ≡ Whole (OpensGroup tag required) next → 1024 ≤ row → here ≡ laying None table
      unfolding on_record
      lay_group_full e h = items-step _ _ e ∙ rw (le-leb _ _ h)

      pub lay_group : (after end : ℕ) (within : List ℕ) → record_at bytes at ≡ Whole (OpensGroup tag required) next → row < 1024 →
          inner next (row + 1) table ≡ laying (Some (after, end)) within → row + 1 < end →
          here ≡ go_on after end (put_row within row tag required true end)
      unfolding on_record after_group
      lay_group after end within e h i some = items-step _ _ e ∙ rw (lt-leb _ _ h, i, lt-leb _ _ some)

      pub lay_group-empty : (after end : ℕ) (within : List ℕ) → record_at bytes at ≡ Whole (OpensGroup tag required) next → row < 1024 →
          inner next (row + 1) table ≡ laying (Some (after, end)) within → end ≤ row + 1 → here ≡ laying None within
      unfolding on_record after_group
      lay_group-empty after end within e h i none = items-step _ _ e ∙ rw (lt-leb _ _ h, i, le-leb _ _ none)

      pub lay_group_broken : (within : List ℕ) → record_at bytes at ≡ Whole (OpensGroup tag required) next → row < 1024 → inner next (row + 1) table ≡ laying None within → here ≡ laying None within
      unfolding on_record after_group
      lay_group_broken within e h i = items-step _ _ e ∙ rw (lt-leb _ _ h, i)

    module _ (number : ℕ) (required : Bool) (next : ℕ) (e : record_at bytes at ≡ Whole (ComponentItem required number) next) where
      pub lay_empty : stands_at components number ≡ None → here ≡ go_on next row table
      unfolding on_record on_component
      lay_empty s = items-step _ _ e ∙ rw s

      pub lay_component : (place after end : ℕ) (within : List ℕ) → stands_at components number ≡ Some place → inner place row table ≡ laying (Some (after, end)) within → row < end → here ≡ go_on next end within
      unfolding on_record on_component after_component
      lay_component place after end within s i h = items-step _ _ e ∙ rw (s, i, lt-leb _ _ h)

      pub lay_component_still : (place after end : ℕ) (within : List ℕ) → stands_at components number ≡ Some place → inner place row table ≡ laying (Some (after, end)) within → end ≤ row → here ≡ laying None within
      unfolding on_record on_component after_component
      lay_component_still place after end within s i h = items-step _ _ e ∙ rw (s, i, le-leb _ _ h)

      pub lay_component_broken : (place : ℕ) (within : List ℕ) → stands_at components number ≡ Some place → inner place row table ≡ laying None within → here ≡ laying None within
      unfolding on_record on_component after_component
      lay_component_broken place within s i = items-step _ _ e ∙ rw (s, i)

    pub lay_close : (next : ℕ) → record_at bytes at ≡ Whole Closes next → here ≡ laying (Some (next, row)) table
    unfolding on_record
    lay_close next e = items-step _ _ e

    pub lay_bad : record_at bytes at ≡ Bad → here ≡ laying None table
    unfolding items_from items_within on_read
    lay_bad e = fuel_agrees (length bytes - at) (suc (length bytes)) at row table (omega arith) (omega arith) ∙ rw e

    pub lay_end : record_at bytes at ≡ End → here ≡ laying None table
    unfolding items_from items_within on_read
    lay_end e = fuel_agrees (length bytes - at) (suc (length bytes)) at row table (omega arith) (omega arith) ∙ rw e

    -- what opens at top level, and a known tag, are no items
    pub lay_known_tag : (tag next : ℕ) → record_at bytes at ≡ Whole (KnownTag tag) next → here ≡ laying None table
    unfolding on_record
    lay_known_tag tag next e = items-step _ _ e

    pub lay_opens_component : (number next : ℕ) → record_at bytes at ≡ Whole (OpensComponent number) next → here ≡ laying None table
    unfolding on_record
    lay_opens_component number next e = items-step _ _ e

    pub lay_opens_message : (msg_type next : ℕ) → record_at bytes at ≡ Whole (OpensMessage msg_type) next → here ≡ laying None table
    unfolding on_record
    lay_opens_message msg_type next e = items-step _ _ e

-- with no depth left nothing is laid; with some, the items are laid one by one
module _ (bytes : List ℕ) (components : ℕ → Option Component) (at row : ℕ) (table : List ℕ) where
  pub lay_deep : (depth : ℕ) → depth ≡ 0 → lay_items depth bytes components at row table ≡ laying None table
  unfolding lay_items
  lay_deep zero e = refl
  lay_deep (suc depth) e = absurd (omega arith)

  pub lay_down : (depth : ℕ) → (depth ≡ 0 → ⊥) → lay_items depth bytes components at row table ≡ items_from (lay_items (depth - 1) bytes components) bytes components at row table
  unfolding lay_items
  lay_down zero e = absurd (e refl)
  lay_down (suc depth) e = let d : suc depth - 1 ≡ depth = omega arith in rw d

-- a component's expansion
module _ (components : ℕ → Option Component) (number : ℕ) where
  pub stands_missing : components number ≡ None → stands_at components number ≡ None
  unfolding stands_at expanding
  stands_missing e = rw e

  pub stands-empty : (c : Component) → components number ≡ Some c → c.items ≡ 0 → stands_at components number ≡ None
  unfolding stands_at expanding
  stands-empty c e z = rw (e, eq-eqb _ _ z)

  pub stands-behind : (c : Component) → components number ≡ Some c → (c.items ≡ 0 → ⊥) → stands_at components number ≡ behind_opening (components c.stands)
  unfolding stands_at expanding
  stands-behind c e z = rw (e, ne_eqb _ _ z)

  pub stands_lost : (c : Component) → components number ≡ Some c → (c.items ≡ 0 → ⊥) → components c.stands ≡ None → stands_at components number ≡ None
  unfolding stands_at expanding behind_opening
  stands_lost c e z m = rw (e, ne_eqb _ _ z, m)

  pub stands_somewhere : (c d : Component) → components number ≡ Some c → (c.items ≡ 0 → ⊥) → components c.stands ≡ Some d → stands_at components number ≡ Some (d.place + 3)
  unfolding stands_at expanding behind_opening
  stands_somewhere c d e z m = rw (e, ne_eqb _ _ z, m)

-- a row keeps the table's length
pub put-length : (table : List ℕ) (row tag : ℕ) (required is_group : Bool) (link : ℕ) → length (put_row table row tag required is_group link) ≡ length table
unfolding put_row
put-length table row tag required is_group link = simp length-set
