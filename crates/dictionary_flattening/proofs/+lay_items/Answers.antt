use Rattle.std.proofs.Common.{refl, sym, ◌∙◌, arith}
use Rattle.dictionary_rules.specs.RecordsLaws.{record_falls}
use Rattle.dictionary_meaning_rules.proofs.LayingLaws.{lay_advances, lay_field, lay_field_full, lay_group, lay_group_broken, lay_group-empty}
use Rattle.dictionary_meaning_rules.proofs.LayingLaws.{lay_group_full, lay_component, lay_component_broken, lay_component_still, lay_close}
use Rattle.dictionary_meaning_rules.proofs.LayingLaws.{lay_deep, lay_down}
use Rattle.dictionary_flattening.proofs.LeapsLaws.{leads_past, leads_on}
use Rattle.dictionary_flattening.proofs.Arms.{unread, top_level, reached, read_as, laid_as}
use Rattle.dictionary_flattening.proofs.+lay_items.Goals as goal

pub returns-then-depth-eq0-clause-table_after : goal.returns-then-depth-eq0-clause-table_after
returns-then-depth-eq0-clause-table_after t c = sym (lay_deep _ _ _ _ _ _ c.if-depth-eq0.true)

pub loop-record-init : goal.loop-record-init
loop-record-init t c = (omega arith, refl, c.requires.2, lay_down _ _ _ _ _ _ c.if-depth-eq0.false)

pub returns-in_default : goal.returns-in_default
returns-in_default t c =
    let i = c.loop-record.invariant in
    record { table_after = sym (i.3 ∙ unread _ _ _ (lay_advances _ _ _) _ _ _ _ c.record_at.ensures c.in_default.not-Whole); leaps = i.2 }

-- a field item
pub returns-then-row-ge1024-clause-table_after : goal.returns-then-row-ge1024-clause-table_after
returns-then-row-ge1024-clause-table_after t c =
    let here = read_as (sym c.in-Whole.ensures) c.in-FieldItem.is in
    sym (c.loop-record.invariant.3 ∙ lay_field_full _ _ _ (lay_advances _ _ _) _ _ _ _ _ _ here c.if-row-ge1024.true)

pub loop-record-smaller-in-FieldItem : goal.loop-record-smaller-in-FieldItem
loop-record-smaller-in-FieldItem t c = omega (arith, record_falls _ _ _ _ (sym c.in-Whole.ensures))

pub loop-record-preserved-in-FieldItem : goal.loop-record-preserved-in-FieldItem
loop-record-preserved-in-FieldItem t c =
    let i = c.loop-record.invariant in
    let here = read_as (sym c.in-Whole.ensures) c.in-FieldItem.is in (
      omega (arith, c.if-row-ge1024.false),
      i.1,
      i.2,
      i.3 ∙ lay_field _ _ _ (lay_advances _ _ _) _ _ _ _ _ _ here c.if-row-ge1024.false ∙ rw c.put_row.ensures,
    )

-- a group that opens, what was laid within it, and the row where its entries end
pub returns-then-row-ge1024-2-clause-table_after : goal.returns-then-row-ge1024-2-clause-table_after
returns-then-row-ge1024-2-clause-table_after t c =
    let here = read_as (sym c.in-Whole.ensures) c.in-OpensGroup.is in
    sym (c.loop-record.invariant.3 ∙ lay_group_full _ _ _ (lay_advances _ _ _) _ _ _ _ _ _ here c.if-row-ge1024-2.true)

pub returns-in_default-lay_items-clause-table_after : goal.returns-in_default-lay_items-clause-table_after
returns-in_default-lay_items-clause-table_after t c =
    let here = read_as (sym c.in-Whole.ensures) c.in-OpensGroup.is in
    sym (c.loop-record.invariant.3 ∙ lay_group_broken _ _ _ (lay_advances _ _ _) _ _ _ _ _ _ _ here c.if-row-ge1024-2.false
    (laid_as c.lay_items.ensures.table_after c.in_default-lay_items.is))

pub returns-then-end-row-clause-table_after : goal.returns-then-end-row-clause-table_after
returns-then-end-row-clause-table_after t c =
    let here = read_as (sym c.in-Whole.ensures) c.in-OpensGroup.is in
    sym (c.loop-record.invariant.3 ∙ lay_group-empty _ _ _ (lay_advances _ _ _) _ _ _ _ _ _ _ _ _ here c.if-row-ge1024-2.false
    (sym c.in-Some.ensures.table_after) c.if-end-row.true)

pub put_row-requires-in-OpensGroup : goal.put_row-requires-in-OpensGroup
put_row-requires-in-OpensGroup t c =
    let r = reached (lay_advances _ _ _ _ _ _ (omega (arith, c.if-row-ge1024-2.false))) (sym c.in-Some.ensures.table_after) in
    (c.if-row-ge1024-2.false, r.3)

pub loop-record-smaller-in-OpensGroup : goal.loop-record-smaller-in-OpensGroup
loop-record-smaller-in-OpensGroup t c =
    let r = reached (lay_advances _ _ _ _ _ _ (omega (arith, c.if-row-ge1024-2.false))) (sym c.in-Some.ensures.table_after) in
    omega (arith, r, record_falls _ _ _ _ (sym c.in-Whole.ensures))

pub loop-record-preserved-in-OpensGroup : goal.loop-record-preserved-in-OpensGroup
loop-record-preserved-in-OpensGroup t c =
    let i = c.loop-record.invariant in
    let here = read_as (sym c.in-Whole.ensures) c.in-OpensGroup.is in
    let laid = sym c.in-Some.ensures.table_after in
    let r = reached (lay_advances _ _ _ _ _ _ (omega (arith, c.if-row-ge1024-2.false))) laid in (
      r.3,
      c.lay_items.auto.leaps ∙ i.1,
      c.lay_items.ensures.leaps,
      i.3 ∙ lay_group _ _ _ (lay_advances _ _ _) _ _ _ _ _ _ _ _ _ here c.if-row-ge1024-2.false laid c.if-end-row.false
          ∙ rw c.put_row-in-OpensGroup.ensures,
    )

-- a component item, and what was laid of the component
pub returns-in_default-lay_items-2-clause-table_after : goal.returns-in_default-lay_items-2-clause-table_after
returns-in_default-lay_items-2-clause-table_after t c =
    let here = read_as (sym c.in-Whole.ensures) c.in-ComponentItem.is in
    sym (c.loop-record.invariant.3 ∙ lay_component_broken _ _ _ (lay_advances _ _ _) _ _ _ _ _ _ here _ _ (sym c.in-Some-stands_at.ensures)
    (laid_as c.lay_items-in-Some-stands_at.ensures.table_after c.in_default-lay_items-2.is))

pub returns-then-end-row-2-clause-table_after : goal.returns-then-end-row-2-clause-table_after
returns-then-end-row-2-clause-table_after t c =
    let here = read_as (sym c.in-Whole.ensures) c.in-ComponentItem.is in
    sym (c.loop-record.invariant.3 ∙ lay_component_still _ _ _ (lay_advances _ _ _) _ _ _ _ _ _ here _ _ _ _ (sym c.in-Some-stands_at.ensures)
    (sym c.in-Some-lay_items.ensures.table_after) c.if-end-row-2.true)

pub loop-record-smaller-in-Some-stands_at : goal.loop-record-smaller-in-Some-stands_at
loop-record-smaller-in-Some-stands_at t c = omega (arith, record_falls _ _ _ _ (sym c.in-Whole.ensures))

pub loop-record-preserved-in-Some-stands_at : goal.loop-record-preserved-in-Some-stands_at
loop-record-preserved-in-Some-stands_at t c =
    let i = c.loop-record.invariant in
    let here = read_as (sym c.in-Whole.ensures) c.in-ComponentItem.is in
    let laid = sym c.in-Some-lay_items.ensures.table_after in (
      (reached (lay_advances _ _ _ _ _ _ i.0) laid).3,
      c.lay_items-in-Some-stands_at.auto.leaps ∙ i.1,
      c.lay_items-in-Some-stands_at.ensures.leaps,
      i.3 ∙ lay_component _ _ _ (lay_advances _ _ _) _ _ _ _ _ _ here _ _ _ _ (sym c.in-Some-stands_at.ensures) laid c.if-end-row-2.false,
    )

-- behind an item that stands for nothing, at the end of their row
pub loop-record-smaller : goal.loop-record-smaller
loop-record-smaller t c = omega (arith, record_falls _ _ _ _ (sym c.in-Whole.ensures), c.pass-at.ensures.leads.onward)

pub loop-record-preserved : goal.loop-record-preserved
loop-record-preserved t c =
    let i = c.loop-record.invariant in
    let past = leads_past (read_as (sym c.in-Whole.ensures) c.in-ComponentItem.is) (sym c.in-None.ensures) in
    (i.0, c.pass-at.auto.leaps ∙ i.1, c.pass-at.ensures.leaps, i.3 ∙ (leads_on past c.pass-at.ensures.leads).same _ (lay_advances _ _ _) _ _)

-- the close, and what is none of the items
pub returns-in-Closes-clause-table_after : goal.returns-in-Closes-clause-table_after
returns-in-Closes-clause-table_after t c =
    let here = read_as (sym c.in-Whole.ensures) c.in-Closes.is in
    sym (c.loop-record.invariant.3 ∙ lay_close _ _ _ (lay_advances _ _ _) _ _ _ _ here)

pub returns-in_default-record-clause-table_after : goal.returns-in_default-record-clause-table_after
returns-in_default-record-clause-table_after t c =
    let d = c.in_default-record in
    sym (c.loop-record.invariant.3 ∙ top_level _ _ _ (lay_advances _ _ _) _ _ _ _ _ (sym c.in-Whole.ensures)
    d.not-FieldItem d.not-ComponentItem d.not-OpensGroup d.not-Closes)
