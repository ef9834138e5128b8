use mathlib.Core.Path.{◌≡◌, refl, sym, ◌∙◌}
use Prim.Native.Nat.{◌≤◌, ◌<◌}
use native.Mathlib.Omega.{arith}
use lib.ListN.{length, length-set}
use Rattle.dictionary_rules.specs.Record.{record_at}
use Rattle.dictionary_rules.specs.RecordsLaws.{record_falls}
use Rattle.dictionary_rules.specs.declared.Record.TheVariants.{FieldItem}
use Rattle.dictionary_rules.specs.declared.RecordRead.TheVariants.{Whole}
use Rattle.dictionary_meaning_rules.proofs.PlainTagsLaws.{tags-field, tags_full, tags_within_lem, tags-component, tags-group, tags-closed, tags-closes}
use Rattle.dictionary_flattening.proofs.Arms.{read_as}
use Rattle.dictionary_flattening.proofs.TagArms.{unread_tags, top_level_tags}
use Rattle.dictionary_flattening.proofs.tags.list_tags.Goals as goal
use Rattle.dictionary_flattening.proofs.tags.list_tags.Goals.{In-Whole}

pub loop-record-init : goal.loop-record-init
loop-record-init c = (omega arith, omega arith, refl, refl)

pub returns-in_default : goal.returns-in_default
returns-in_default c = sym (c.loop-record.invariant.3 ∙ unread_tags _ _ _ _ _ _ c.record_at.ensures c.in_default.not-Whole)

read_here : (c : In-Whole) → record_at c.args.dictionary.now c.loop-record.at ≡ Whole c.in-Whole.record c.in-Whole.next
read_here c = sym c.record_at.ensures ∙ c.in-Whole.is

read-rises : (c : In-Whole) → (c.loop-record.at < c.in-Whole.next) × (c.in-Whole.next ≤ length c.args.dictionary.now)
read-rises c = record_falls _ _ _ _ (read_here c)

pub returns-then-count-ge1024 : goal.returns-then-count-ge1024
returns-then-count-ge1024 c =
    let field-here : record_at c.args.dictionary.now c.loop-record.at ≡ Whole (FieldItem c.in-FieldItem.tag c.in-FieldItem.field-1)
    c.in-Whole.next = read_as (read_here (goal.at.returns-then-count-ge1024 c).In-Whole) c.in-FieldItem.is in
    sym (c.loop-record.invariant.3 ∙ tags_full _ _ _ _ _ _ _ _ (field-here) c.if-groups-eq0.true c.if-count-ge1024.true)

pub bounds-tags-count : goal.bounds-tags-count
bounds-tags-count c = omega (arith, c.if-count-ge1024.false, c.loop-record.invariant.2)

pub loop-record-smaller-then-groups-eq0 : goal.loop-record-smaller-then-groups-eq0
loop-record-smaller-then-groups-eq0 c = omega (arith, read-rises (goal.at.loop-record-smaller-then-groups-eq0 c).In-Whole)

pub loop-record-preserved-then-groups-eq0 : goal.loop-record-preserved-then-groups-eq0
loop-record-preserved-then-groups-eq0 c =
    let field-here : record_at c.args.dictionary.now c.loop-record.at ≡ Whole (FieldItem c.in-FieldItem.tag c.in-FieldItem.field-1)
    c.in-Whole.next = read_as (read_here (goal.at.loop-record-preserved-then-groups-eq0 c).In-Whole) c.in-FieldItem.is in (
      omega (arith, c.if-count-ge1024.false),
      omega (arith, read-rises (goal.at.loop-record-preserved-then-groups-eq0 c).In-Whole, c.loop-record.invariant.1),
      simp length-set c.loop-record.invariant.2,
      c.loop-record.invariant.3 ∙ tags-field _ _ _ _ _ _ _ _ (field-here) c.if-groups-eq0.true c.if-count-ge1024.false,
    )

pub loop-record-smaller-else-groups-eq0 : goal.loop-record-smaller-else-groups-eq0
loop-record-smaller-else-groups-eq0 c = omega (arith, read-rises (goal.at.loop-record-smaller-else-groups-eq0 c).In-Whole)

pub loop-record-preserved-else-groups-eq0 : goal.loop-record-preserved-else-groups-eq0
loop-record-preserved-else-groups-eq0 c =
    let field-here : record_at c.args.dictionary.now c.loop-record.at ≡ Whole (FieldItem c.in-FieldItem.tag c.in-FieldItem.field-1)
    c.in-Whole.next = read_as (read_here (goal.at.loop-record-preserved-else-groups-eq0 c).In-Whole) c.in-FieldItem.is in (
      c.loop-record.invariant.0,
      omega (arith, read-rises (goal.at.loop-record-preserved-else-groups-eq0 c).In-Whole, c.loop-record.invariant.1),
      c.loop-record.invariant.2,
      c.loop-record.invariant.3 ∙ tags_within_lem _ _ _ _ _ _ _ _ (field-here) c.if-groups-eq0.false,
    )

pub loop-record-smaller-in-ComponentItem : goal.loop-record-smaller-in-ComponentItem
loop-record-smaller-in-ComponentItem c = omega (arith, read-rises (goal.at.loop-record-smaller-in-ComponentItem c).In-Whole)

pub loop-record-preserved-in-ComponentItem : goal.loop-record-preserved-in-ComponentItem
loop-record-preserved-in-ComponentItem c = (
  c.loop-record.invariant.0,
  omega (arith, read-rises (goal.at.loop-record-preserved-in-ComponentItem c).In-Whole, c.loop-record.invariant.1),
  c.loop-record.invariant.2,
  c.loop-record.invariant.3 ∙ tags-component _ _ _ _ _ _ _ _ (read_as (read_here (goal.at.loop-record-preserved-in-ComponentItem c).In-Whole) c.in-ComponentItem.is),
)

pub overflow_add-groups : goal.overflow_add-groups
overflow_add-groups c = omega (arith, read-rises (goal.at.overflow_add-groups c).In-Whole, c.loop-record.invariant.1)

pub loop-record-smaller-in-OpensGroup : goal.loop-record-smaller-in-OpensGroup
loop-record-smaller-in-OpensGroup c = omega (arith, read-rises (goal.at.loop-record-smaller-in-OpensGroup c).In-Whole)

pub loop-record-preserved-in-OpensGroup : goal.loop-record-preserved-in-OpensGroup
loop-record-preserved-in-OpensGroup c = (
  c.loop-record.invariant.0,
  omega (arith, read-rises (goal.at.loop-record-preserved-in-OpensGroup c).In-Whole, c.loop-record.invariant.1),
  c.loop-record.invariant.2,
  c.loop-record.invariant.3 ∙ tags-group _ _ _ _ _ _ _ _ (read_as (read_here (goal.at.loop-record-preserved-in-OpensGroup c).In-Whole) c.in-OpensGroup.is),
)

pub returns-then-groups-eq0-2 : goal.returns-then-groups-eq0-2
returns-then-groups-eq0-2 c = sym (c.loop-record.invariant.3 ∙ tags-closed _ _ _ _ _ _ (read_as (read_here (goal.at.returns-then-groups-eq0-2 c).In-Whole) c.in-Closes.is) c.if-groups-eq0-2.true)

pub loop-record-smaller : goal.loop-record-smaller
loop-record-smaller c = omega (arith, read-rises (goal.at.loop-record-smaller c).In-Whole)

pub loop-record-preserved : goal.loop-record-preserved
loop-record-preserved c = (
  c.loop-record.invariant.0,
  omega (arith, read-rises (goal.at.loop-record-preserved c).In-Whole, c.loop-record.invariant.1),
  c.loop-record.invariant.2,
  c.loop-record.invariant.3 ∙ tags-closes _ _ _ _ _ _ (read_as (read_here (goal.at.loop-record-preserved c).In-Whole) c.in-Closes.is) c.if-groups-eq0-2.false,
)

pub returns-in_default-record : goal.returns-in_default-record
returns-in_default-record c = sym (c.loop-record.invariant.3 ∙ top_level_tags _ _ _ _ _ _ _ (read_here (goal.at.returns-in_default-record c).In-Whole)
    c.in_default-record.not-FieldItem c.in_default-record.not-ComponentItem c.in_default-record.not-OpensGroup c.in_default-record.not-Closes)
