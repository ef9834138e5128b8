-- Items that stand in the bytes are laid as the rows of what they mean, if each component that they name is, and the depth suffices.
-- Laying what lies within takes one of the depth: one for each item is enough, and one for each group that nests, where a level may hold a
-- component only.
use Rattle.std.specs.Prelude.{◌≡◌, Bool, List, ℕ, suc, ◌+◌, ◌-◌, ◌≤◌, ◌<◌}
use Rattle.std.proofs.Math.Path.{refl, ap}
use Rattle.std.proofs.Common.{sym, ◌∙◌, arith, Option, Some, None}
use Rattle.std.proofs.Math.Bool.{true, false}
use Rattle.dictionary_layout_rules.specs.Layout.{Layout, end, followed_by, items, depth as nesting}
use Rattle.dictionary_layout_rules.proofs.MeasuresLaws.{larger-first, larger-second, depth-followed}
use Rattle.dictionary_layout_rules.specs.Tree.{flattened}
use Rattle.dictionary_rules.specs.Record.{record_at}
use Rattle.dictionary_rules.specs.declared.Record.TheVariants.{FieldItem, ComponentItem, OpensGroup, Closes}
use Rattle.dictionary_rules.specs.declared.RecordRead.TheVariants.{Whole}
use Rattle.dictionary_meaning_rules.specs.Laying.{Laying, laying, stands_at, put_row, items_from, lay_items}
use Rattle.dictionary_meaning_rules.proofs.LayingLaws.{lay_advances, lay_field, lay_group, lay_empty, lay_component, lay_close, lay_down}
use Rattle.dictionary_meaning_rules.specs.Meaning.{Items, closed, field_then_lem, component_then_lem, group_then_lem, Defined, nodes_of, expanded}
use Rattle.dictionary_meaning_rules.proofs.Written.{written, items-followed, written-followed}
use Rattle.dictionary_rules.specs.declared.Component.{Component}

-- the records from a place on are these items, and the next place is right after their close
pub data Reads (bytes : List ℕ) : ℕ → Items → ℕ → Type 0 where
  reads-close : {at next : ℕ} → record_at bytes at ≡ Whole Closes next → Reads bytes at closed next
  reads-field : {at next after tag : ℕ} {required : Bool} {rest : Items} → record_at bytes at ≡ Whole (FieldItem tag required) next → Reads bytes next rest after → Reads bytes at (field_then_lem tag required rest) after
  reads-component : {at next after number : ℕ} {required : Bool} {rest : Items} → record_at bytes at ≡ Whole (ComponentItem required number) next → Reads bytes next rest after → Reads bytes at (component_then_lem number required rest) after
  reads-group : {at next upto after tag : ℕ} {required : Bool} {inner rest : Items} → record_at bytes at ≡ Whole (OpensGroup tag required) next → Reads bytes next inner upto → Reads bytes upto rest after → Reads bytes at (group_then_lem tag required inner rest) after

-- how deep laying goes for a layout, at most
abbrev pub calls_for : Layout → ℕ
calls_for layout = items layout + nesting layout

-- laying from a place on writes this layout, wherever there is room and depth for it
abbrev pub Layable : List ℕ → (ℕ → Option Component) → ℕ → Layout → Type 0
Layable bytes components place layout = (depth row : ℕ) (table : List ℕ) → calls_for layout < depth → row + items layout ≤ 1024 → (after : ℕ) × (lay_items depth bytes components place row table ≡ laying (Some (after, (row + items layout))) (written row layout table))

-- what a component means, flattened
abbrev pub layout_of : List Defined → ℕ → Layout
layout_of defined number = flattened (nodes_of defined number)

-- a component's layout is empty and is skipped, or it has items and is laid from where the component stands
pub data Lays (bytes : List ℕ) (components : ℕ → Option Component) (number : ℕ) (layout : Layout) : Type 0 where
  lays_nothing : stands_at components number ≡ None → layout ≡ end → Lays bytes components number layout
  lays_items : {place : ℕ} → stands_at components number ≡ Some place → 1 ≤ items layout → Layable bytes components place layout → Lays bytes components number layout

-- what items mean, flattened
abbrev pub flat : List Defined → Items → Layout
flat defined written = flattened (expanded defined written)

-- every component that items name is laid, and no group is empty
pub data AllLay (bytes : List ℕ) (components : ℕ → Option Component) (defined : List Defined) : Items → Type 0 where
  all-close : AllLay bytes components defined closed
  all-field : {tag : ℕ} {required : Bool} {rest : Items} → AllLay bytes components defined rest → AllLay bytes components defined (field_then_lem tag required rest)
  all-component : {number : ℕ} {required : Bool} {rest : Items} → Lays bytes components number (layout_of defined number) → AllLay bytes components defined rest → AllLay bytes components defined (component_then_lem number required rest)
  all-group : {tag : ℕ} {required : Bool} {inner rest : Items} → 1 ≤ items (flat defined inner) → AllLay bytes components defined inner →
      AllLay bytes components defined rest → AllLay bytes components defined (group_then_lem tag required inner rest)

-- the depth is enough for what lies directly within a level
pub data Room (defined : List Defined) (depth : ℕ) : Items → Type 0 where
  room-close : Room defined depth closed
  room-field : {tag : ℕ} {required : Bool} {rest : Items} → Room defined depth rest → Room defined depth (field_then_lem tag required rest)
  room-component : {number : ℕ} {required : Bool} {rest : Items} → calls_for (layout_of defined number) < depth → Room defined depth rest → Room defined depth (component_then_lem number required rest)
  room-group : {tag : ℕ} {required : Bool} {inner rest : Items} → calls_for (flat defined inner) + 1 < depth → Room defined depth rest → Room defined depth (group_then_lem tag required inner rest)

-- what a level counts
module _ (defined : List Defined) where
  pub count-field : (tag : ℕ) (required : Bool) (rest : Items) → items (flat defined (field_then_lem tag required rest)) ≡ 1 + items (flat defined rest)
  unfolding expanded flattened items
  count-field tag required rest = refl

  pub count-component : (number : ℕ) (required : Bool) (rest : Items) → items (flat defined (component_then_lem number required rest)) ≡ items (layout_of defined number) + items (flat defined rest)
  unfolding expanded flattened
  count-component number required rest = items-followed (layout_of defined number) (flat defined rest)

  pub count-group : (tag : ℕ) (required : Bool) (inner rest : Items) → items (flat defined (group_then_lem tag required inner rest)) ≡ 1 + (items (flat defined inner) + items (flat defined rest))
  unfolding expanded flattened items
  count-group tag required inner rest = refl

  -- how deep its groups nest
  pub nest_field : (tag : ℕ) (required : Bool) (rest : Items) → nesting (flat defined (field_then_lem tag required rest)) ≡ nesting (flat defined rest)
  unfolding expanded flattened nesting
  nest_field tag required rest = refl

  pub nest_component : (number : ℕ) (required : Bool) (rest : Items) →
      (nesting (layout_of defined number) ≤ nesting (flat defined (component_then_lem number required rest)))
      × (nesting (flat defined rest) ≤ nesting (flat defined (component_then_lem number required rest)))
  unfolding expanded flattened
  nest_component number required rest =
      rw (depth-followed (layout_of defined number) (flat defined rest))
      (larger-first (nesting (layout_of defined number)) (nesting (flat defined rest)), larger-second (nesting (layout_of defined number)) (nesting (flat defined rest)))

  pub nest_group : (tag : ℕ) (required : Bool) (inner rest : Items) →
      (1 + nesting (flat defined inner) ≤ nesting (flat defined (group_then_lem tag required inner rest)))
      × (nesting (flat defined rest) ≤ nesting (flat defined (group_then_lem tag required inner rest)))
  unfolding expanded flattened nesting
  nest_group tag required inner rest =
      (larger-first (1 + nesting (flat defined inner)) (nesting (flat defined rest)), larger-second (1 + nesting (flat defined inner)) (nesting (flat defined rest)))

  -- more than that is enough for any level
  pub room-any : (depth : ℕ) (level : Items) → calls_for (flat defined level) < depth → Room defined depth level
  room-any depth closed h = room-close
  room-any depth (field_then_lem tag required rest) h =
      room-field (room-any depth rest (omega (arith, count-field tag required rest, nest_field tag required rest)))
  room-any depth (component_then_lem number required rest) h =
      let c = count-component number required rest in
      let d = nest_component number required rest in
      let r : calls_for (layout_of defined number) < depth = omega arith in
      room-component r (room-any depth rest (omega arith))
  room-any depth (group_then_lem tag required inner rest) h =
      let c = count-group tag required inner rest in
      let d = nest_group tag required inner rest in
      let r : calls_for (flat defined inner) + 1 < depth = omega arith in
      room-group r (room-any depth rest (omega arith))

-- how far a layout is laid from a row on, and what the table holds then
abbrev pub laid_from : ℕ → ℕ → Layout → List ℕ → Laying
laid_from after row layout table = laying (Some (after, (row + items layout))) (written row layout table)

module _ (defined : List Defined) (after row : ℕ) (table : List ℕ) where
  laid-close : laid_from after row (flat defined closed) table ≡ laying (Some (after, row)) table
  unfolding expanded flattened items written
  laid-close = ap (λ (n : ℕ). laying (Some (after, n)) table) (omega arith)

  laid-field : (tag : ℕ) (required : Bool) (rest : Items) → laid_from after (row + 1) (flat defined rest) (put_row table row tag required false (row + 1)) ≡ laid_from after row (flat defined (field_then_lem tag required rest)) table
  unfolding expanded flattened items written
  laid-field tag required rest = ap (λ (n : ℕ). laying (Some (after, n)) (written (row + 1) (flat defined rest) (put_row table row tag required false (row + 1)))) (omega arith)

  laid-component : (number : ℕ) (required : Bool) (rest : Items) → laid_from after (row + items (layout_of defined number)) (flat defined rest) (written row (layout_of defined number) table) ≡ laid_from after row (flat defined (component_then_lem number required rest)) table
  unfolding expanded flattened
  laid-component number required rest =
      let n : row + items (layout_of defined number) + items (flat defined rest) ≡ row + items (followed_by (layout_of defined number) (flat defined rest)) = omega (arith, items-followed (layout_of defined number) (flat defined rest)) in
      cc (n, written-followed row (layout_of defined number) (flat defined rest) table)

  laid-empty : (number : ℕ) (required : Bool) (rest : Items) → layout_of defined number ≡ end → laid_from after row (flat defined rest) table ≡ laid_from after row (flat defined (component_then_lem number required rest)) table
  unfolding expanded flattened followed_by
  laid-empty number required rest e = rw e

  laid-group : (tag : ℕ) (required : Bool) (inner rest : Items) → laid_from after (row + 1 + items (flat defined inner)) (flat defined rest) (put_row (written (row + 1) (flat defined inner) table) row tag required true (row + 1 + items (flat defined inner))) ≡ laid_from after row (flat defined (group_then_lem tag required inner rest)) table
  unfolding expanded flattened items written
  laid-group tag required inner rest =
      ap (λ (n : ℕ). laying (Some (after, n)) (written (row + 1 + items (flat defined inner)) (flat defined rest) (put_row (written (row + 1) (flat defined inner) table) row tag required true (row + 1 + items (flat defined inner))))) (omega arith)

module _ (bytes : List ℕ) (components : ℕ → Option Component) (defined : List Defined) where
  abbrev Laying_ok : ℕ → ℕ → Items → ℕ → Type 0
  Laying_ok at after level depth = (row : ℕ) (table : List ℕ) → row + items (flat defined level) ≤ 1024 → items_from (lay_items depth bytes components) bytes components at row table ≡ laid_from after row (flat defined level) table

  -- a component item, by what is known of its component
  component_level : (at next after number : ℕ) (required : Bool) (rest : Items) (depth : ℕ) → record_at bytes at ≡ Whole (ComponentItem required number) next → Lays bytes components number (layout_of defined number) → calls_for (layout_of defined number) < depth → Laying_ok next after rest depth → Laying_ok at after (component_then_lem number required rest) depth
  component_level at next after number required rest depth e (lays_nothing s z) n r row table h =
      lay_empty (lay_items depth bytes components) bytes components (lay_advances depth bytes components) at row table number required next e s
      ∙ r row table (omega (arith, count-component defined number required rest))
      ∙ laid-empty defined after row table number required rest z
  component_level at next after number required rest depth e (lays_items {place} s m l) n r row table h =
      let c = count-component defined number required rest in
      let w = l depth row table n (omega arith) in
      lay_component (lay_items depth bytes components) bytes components (lay_advances depth bytes components) at row table number required next e place w.0 (row + items (layout_of defined number)) (written row (layout_of defined number) table) s w.1 (omega arith)
      ∙ r (row + items (layout_of defined number)) (written row (layout_of defined number) table) (omega arith)
      ∙ laid-component defined after row table number required rest

  pub lay_level : {at after : ℕ} {level : Items} → Reads bytes at level after → AllLay bytes components defined level → (depth : ℕ) → Room defined depth level → Laying_ok at after level depth
  lay_level {at} {after} (reads-close e) all-close depth room-close row table h =
      lay_close (lay_items depth bytes components) bytes components (lay_advances depth bytes components) at row table after e ∙ sym (laid-close defined after row table)
  lay_level {at} {after} (reads-field {next} {tag} {required} {rest} e r) (all-field a) depth (room-field m) row table h =
      let c = count-field defined tag required rest in
      lay_field (lay_items depth bytes components) bytes components (lay_advances depth bytes components) at row table tag required next e (omega arith)
      ∙ lay_level r a depth m (row + 1) (put_row table row tag required false (row + 1)) (omega arith)
      ∙ laid-field defined after row table tag required rest
  lay_level {at} {after} (reads-component {next} {number} {required} {rest} e r) (all-component l a) depth (room-component n m) row table h =
      component_level at next after number required rest depth e l n (lay_level r a depth m) row table h
  lay_level {at} {after} (reads-group {next} {upto} {tag} {required} {inner} {rest} e i r) (all-group some b a) depth (room-group n m) row table h =
      let c = count-group defined tag required inner rest in
      let within : lay_items depth bytes components next (row + 1) table ≡ laid_from upto (row + 1) (flat defined inner) table = lay_down bytes components next (row + 1) table depth (λ z. absurd (omega arith)) ∙ lay_level i b (depth - 1) (room-any defined (depth - 1) inner (omega arith)) (row + 1) table (omega arith) in
      lay_group (lay_items depth bytes components) bytes components (lay_advances depth bytes components) at row table tag required next upto (row + 1 + items (flat defined inner)) (written (row + 1) (flat defined inner) table) e (omega arith) within (omega arith)
      ∙ lay_level r a depth m (row + 1 + items (flat defined inner)) (put_row (written (row + 1) (flat defined inner) table) row tag required true (row + 1 + items (flat defined inner))) (omega arith)
      ∙ laid-group defined after row table tag required inner rest

  -- a level whose direct parts have room is layable
  pub level_layable : {at after : ℕ} {level : Items} → Reads bytes at level after → AllLay bytes components defined level → ((depth : ℕ) → calls_for (flat defined level) < suc depth → Room defined depth level) → Layable bytes components at (flat defined level)
  level_layable {at} {after} {level} r a m depth row table n h =
      (after, lay_down bytes components at row table depth (λ z. absurd (omega arith)) ∙ lay_level r a (depth - 1) (m (depth - 1) (omega arith)) row table h)
