use mathlib.Core.Path.{◌≡◌, sym, ap, ◌∙◌}
use mathlib.Core.Bool.{false}
use Prim.Native.Nat.{ℕ, ◌+◌, ◌*◌, ◌/◌, ◌%◌, ◌≤◌}
use native.Mathlib.Omega.{arith}
use lib.ListN.{length, get_or}
use Rattle.dictionary_tables_rules.specs.Laid.{part_size, table_size}
use Rattle.dictionary_tables_rules.proofs.TableLaws.{heads_bounds}
use Rattle.dictionary_tables_rules.specs.Tags.{fields_of}
use Rattle.dictionary_tables_rules.proofs.TagsLaws.{fields-part, fields-few}
use Rattle.dictionary_pressing.specs.Pressing.{put_item}
use Rattle.dictionary_pressing.specs.Tags.{putting_start, putting_room, putting_on, putting_end}
use Rattle.dictionary_pressing.proofs.press_tags.Goals as goal

pub overflow_add-slot : goal.overflow_add-slot
overflow_add-slot c = omega (arith, c.heads_for-slot.ensures, (heads_bounds (length c.args.tags.now)).1)

pub loop-next-init : goal.loop-next-init
loop-next-init c = putting_start _ _ _ c.heads_for-slot.ensures

pub put_item-requires : goal.put_item-requires
put_item-requires c =
    let room : c.loop-next.slot + 5 ≤ table_size (fields_of c.args.tags.now) = putting_room _ _ _ _ _ c.loop-next.invariant c.loop-next-test.true in
    (omega (arith, room, c.loop-next.invariant.kept, c.requires.1), omega arith)

-- a tag's halves fit into their words, and make the tag
pub overflow_cast-tag-in-loop-next : goal.overflow_cast-tag-in-loop-next
overflow_cast-tag-in-loop-next c = omega (arith, c.type_inv.tags c.loop-next.next)

halves : (tag : ℕ) → tag % 65536 + 65536 * (tag / 65536) ≡ tag
halves tag = omega arith

pub overflow_add-slot-in-loop-next : goal.overflow_add-slot-in-loop-next
overflow_add-slot-in-loop-next c =
    let room : c.loop-next.slot + 5 ≤ table_size (fields_of c.args.tags.now) = putting_room _ _ _ _ _ c.loop-next.invariant c.loop-next-test.true in
    omega (arith, room, fields-few c.args.tags.now c.requires.0)

pub loop-next-preserved : goal.loop-next-preserved
loop-next-preserved c = putting_on _ _ _ _ _ c.loop-next.invariant c.loop-next-test.true _ c.put_item.auto.table
    (c.put_item.ensures ∙ ap (λ (tag : ℕ). put_item c.loop-next.table c.loop-next.slot tag 0 false)
    (halves (get_or c.args.tags.now c.loop-next.next 0)))

pub link_items-requires : goal.link_items-requires
link_items-requires c =
    let part : part_size (length c.args.tags.now) ≤ length c.loop-next.table = omega (arith, fields-part c.args.tags.now, c.loop-next.invariant.kept, c.requires.1) in
    (omega (arith, part), omega (arith, c.requires.0))

pub part_size-requires : goal.part_size-requires
part_size-requires c = omega (arith, c.requires.0)

pub shape_of-table : goal.shape_of-table
shape_of-table c = c.link_items.auto.table ∙ c.loop-next.invariant.kept

pub returns : goal.returns
returns c = let size = c.part_size.ensures ∙ sym (fields-part c.args.tags.now) in (
  c.link_items.ensures
      ∙ rw size (putting_end _ _ _ _ _ c.loop-next.invariant c.loop-next-test.false c.requires.1),
  size,
)
