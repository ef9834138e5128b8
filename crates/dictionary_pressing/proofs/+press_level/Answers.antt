use Rattle.std.proofs.Common.{◌≡◌, refl, ap, ◌∙◌, ℕ, length, arith}
use Rattle.dictionary_tables_rules.proofs.TableLaws.{heads_bounds}
use Rattle.dictionary_pressing.specs.Linking.{linked}
use Rattle.dictionary_pressing.specs.ForwardLaws.{pressing_within, pressing_count, pressing_few, forward_begin, forward_end, forward_field, forward_room, forward_link, forward_inside, forward_group}
use Rattle.dictionary_pressing.proofs.+press_level.Goals as goal

pub own_count-count-requires : goal.own_count-count-requires
own_count-count-requires t c = pressing_within _ _ _ _ _ c.requires

pub overflow_add-slot-2 : goal.overflow_add-slot-2
overflow_add-slot-2 t c =
    let counted = pressing_count _ _ _ _ _ c.requires _ c.own_count-count.ensures in
    let few = pressing_few _ _ _ _ _ c.requires _ counted in
    omega (arith, few, c.heads_for.ensures, (heads_bounds c.own_count-count.result).1)

pub part_size-requires : goal.part_size-requires
part_size-requires t c =
    let counted = pressing_count _ _ _ _ _ c.requires _ c.own_count-count.ensures in
    omega (arith, pressing_few _ _ _ _ _ c.requires _ counted)

pub overflow_add-free : goal.overflow_add-free
overflow_add-free t c =
    let counted = pressing_count _ _ _ _ _ c.requires _ c.own_count-count.ensures in
    omega (arith, pressing_few _ _ _ _ _ c.requires _ counted, c.part_size.ensures)

-- the items that were counted are the layout's own, of every layout that the rows hold
pub loop-at-init : goal.loop-at-init
loop-at-init t c = (
  (λ x. forward_begin _ _ _ _ _ _ _ _ x (pressing_count _ _ _ _ _ x _ c.own_count-count.ensures) c.heads_for.ensures c.part_size.ensures),
  pressing_within _ _ _ _ _ c.requires,
  refl,
)

pub overflow_add-slot-in-loop-at : goal.overflow_add-slot-in-loop-at
overflow_add-slot-in-loop-at t c =
    let room = forward_room _ _ _ _ _ _ _ _ _ _ (c.loop-at.invariant.0 c.requires) c.loop-at-test.true in
    omega (arith, room, c.requires.small)

pub put_item-requires : goal.put_item-requires
put_item-requires t c =
    let room = forward_room _ _ _ _ _ _ _ _ _ _ (c.loop-at.invariant.0 c.requires) c.loop-at-test.true in
    (omega (arith, room, c.requires.room, c.loop-at.invariant.2), omega (arith, room, c.requires.small))

pub put_item-requires-else-rows-at-eq1 : goal.put_item-requires-else-rows-at-eq1
put_item-requires-else-rows-at-eq1 t c =
    let room = forward_room _ _ _ _ _ _ _ _ _ _ (c.loop-at.invariant.0 c.requires) c.loop-at-test.true in
    (omega (arith, room, c.requires.room, c.loop-at.invariant.2), omega arith)

-- a group's rows end behind its own and no later than the level
pub press_level-free-requires : goal.press_level-free-requires
press_level-free-requires t c =
    let forward = c.loop-at.invariant.0 c.requires in
    let link = forward_link _ _ _ _ _ _ _ _ _ _ forward c.loop-at-test.true c.if-rows-at-eq1.true _ c.from-next.ensures in
    let same : length c.put_item.new.table ≡ length c.args.table.now = c.put_item.auto.table ∙ c.loop-at.invariant.2 in (
      omega (arith, link, forward.since, c.decreases),
      forward_inside _ _ _ _ _ _ _ _ _ _ forward c.loop-at-test.true c.if-rows-at-eq1.true _ c.from-next.ensures _
          (omega (arith, c.requires.room, same)) c.requires.small,
    )

pub loop-at-smaller-then-rows-at-eq1 : goal.loop-at-smaller-then-rows-at-eq1
loop-at-smaller-then-rows-at-eq1 t c =
    let forward = c.loop-at.invariant.0 c.requires in
    omega (arith, forward_link _ _ _ _ _ _ _ _ _ _ forward c.loop-at-test.true c.if-rows-at-eq1.true _ c.from-next.ensures)

pub loop-at-preserved-then-rows-at-eq1 : goal.loop-at-preserved-then-rows-at-eq1
loop-at-preserved-then-rows-at-eq1 t c = (
  (λ x. forward_group _ _ _ _ _ _ _ _ _ _ (c.loop-at.invariant.0 x) c.loop-at-test.true c.if-rows-at-eq1.true _ c.from-next.ensures
      c.put_item.new.table c.press_level-free.new.table c.press_level-free.result x.room x.small c.put_item.ensures c.press_level-free.ensures),
  c.loop-at.invariant.1,
  c.press_level-free.auto.table ∙ c.put_item.auto.table ∙ c.loop-at.invariant.2,
)

-- a field's row
pub loop-at-smaller : goal.loop-at-smaller
loop-at-smaller t c =
    let plain = forward_field _ _ _ _ _ _ _ _ _ _ (c.loop-at.invariant.0 c.requires) c.loop-at-test.true c.if-rows-at-eq1.false _ _ c.from-next.ensures
    c.put_item-else-rows-at-eq1.ensures in
    omega (arith, plain.0, c.loop-at-test.true)

pub loop-at-preserved : goal.loop-at-preserved
loop-at-preserved t c = (
  (λ x. (forward_field _ _ _ _ _ _ _ _ _ _ (c.loop-at.invariant.0 x) c.loop-at-test.true c.if-rows-at-eq1.false _ _ c.from-next.ensures
      c.put_item-else-rows-at-eq1.ensures).1),
  c.loop-at.invariant.1,
  c.put_item-else-rows-at-eq1.auto.table ∙ c.loop-at.invariant.2,
)

pub link_items-requires : goal.link_items-requires
link_items-requires t c =
    let counted = pressing_count _ _ _ _ _ c.requires _ c.own_count-count.ensures in
    let few = pressing_few _ _ _ _ _ c.requires _ counted in
    (omega (arith, few, c.loop-at.invariant.2), omega (arith, few))

pub returns : goal.returns
returns t c =
    λ x. let e = forward_end _ _ _ _ _ _ _ _ _ _ (c.loop-at.invariant.0 x) c.loop-at-test.false x.room in
    let counted = pressing_count _ _ _ _ _ x _ c.own_count-count.ensures in
    record { ends = e.0; words = c.link_items.ensures ∙ ap (λ (n : ℕ). linked c.loop-at.table c.args.level n) counted ∙ e.1 }
