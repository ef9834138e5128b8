use mathlib.Core.Path.{◌≡◌, refl, sym, ap, ◌∙◌}
use mathlib.Core.Bool.{Bool, true, false}
use Prim.Native.Nat.{ℕ, ◌+◌, ◌-◌, ◌*◌, ◌%◌, ◌≤◌, ◌<◌}
use native.Mathlib.Omega.{arith}
use mir.Val.{bool_byte}
use mathlib.Core.List.{List}
use lib.ListN.{length, get_or}
use lib.Dec.{eqb}
use borrow.Author.Tests.{ne_eqb}
use Rattle.dictionary_tables_rules.proofs.TableLaws.{heads_bounds}
use Rattle.dictionary_tables_rules.specs.Laid.{part_size}
use Rattle.field_rules.specs.Choice.{pick}
use Rattle.dictionary_pressing.specs.Linking.{items_start, cleared, linked, Linking}
use Rattle.dictionary_pressing.specs.HeadLaws.{heads-mod}
use Rattle.dictionary_pressing.specs.ClearLaws.{clear_again, clear_linked}
use Rattle.dictionary_pressing.specs.LinkingLaws.{linking_start, linking_end, marked-few, turn_chain, turn}
use Rattle.dictionary_pressing.proofs.Stored.{stored-mark}
use Rattle.dictionary_pressing.proofs.link_items.Goals as goal
use Rattle.dictionary_pressing.proofs.link_items.Goals.{After-tag_at-tag, After-put_links}

pub overflow_add-start : goal.overflow_add-start
unfolding part_size
overflow_add-start c = omega arith

pub overflow_add-start-2 : goal.overflow_add-start-2
unfolding part_size
overflow_add-start-2 c = omega arith

pub loop-i-init : goal.loop-i-init
unfolding part_size
loop-i-init c = let room : c.args.level + part_size c.args.count ≤ length c.args.table.now = c.requires.0 in
    let kept : length c.clear_heads.new.table ≡ length c.args.table.now = c.clear_heads.auto.table in (
      linking_start c.clear_heads.new.table c.args.level c.args.count (omega arith) (omega arith) c.requires.1
          (c.clear_heads.ensures ∙ sym (clear_again _ _ _ room)
          ∙ ap (λ (l : List ℕ). cleared l c.args.level c.args.count) (sym c.clear_heads.ensures)),
      omega (arith, c.heads_for-heads.ensures),
      c.heads_for-heads.ensures,
      omega (arith, c.heads_for-heads.ensures, (heads_bounds c.args.count).0),
    )

marks-fit : (b : Bool) (n : ℕ) → n < 32768 → 2 * n + bool_byte b < 65536
marks-fit true n h = omega arith
marks-fit false n h = omega arith

-- the head lies before the items
below : (c : After-tag_at-tag) → let h = c.heads_for-heads.result in c.tag_at-tag.result % h < h
below c = heads-mod _ _ _ c.loop-i.invariant.2

pub overflow_add-head-in-loop-i : goal.overflow_add-head-in-loop-i
overflow_add-head-in-loop-i c = omega (arith, below c)

pub offset_bounds-table-head : goal.offset_bounds-table-head
offset_bounds-table-head c = omega (arith, below c)

pub bounds-table-head : goal.bounds-table-head
bounds-table-head c = omega (arith, below (goal.at.bounds-table-head c).After-tag_at-tag)

pub last_group-group-requires : goal.last_group-group-requires
unfolding items_start
last_group-group-requires c = rw (c.from.ensures, c.heads_for-heads.ensures)
    (turn_chain _ _ _ _ _ _ c.loop-i.invariant.0 c.loop-i-test.true _ (rw c.heads_for-heads.ensures at c.tag_at-tag.ensures)).0

pub overflow_mul-marked : goal.overflow_mul-marked
overflow_mul-marked c =
    let marked-below : c.loop-i.marked < 32768 = marked-few _ _ _ _ _ _ c.loop-i.invariant.0 in
    omega (arith, marked-below)

pub overflow_add-marked : goal.overflow_add-marked
overflow_add-marked c =
    let marked-below : c.loop-i.marked < 32768 = marked-few _ _ _ _ _ _ c.loop-i.invariant.0 in
    omega (arith, marks-fit (eqb (get_or c.loop-i.table (c.args.level + 1 + c.heads_for-heads.result + 5 * (c.loop-i.i - 1) + 3) 0) 1) _ (marked-below))

pub put_links-requires : goal.put_links-requires
put_links-requires c =
    let marked-below : c.loop-i.marked < 32768 = marked-few _ _ _ _ _ _ c.loop-i.invariant.0 in
    (omega arith, omega (arith, below (goal.at.put_links-requires c).After-tag_at-tag), marks-fit (eqb (get_or c.loop-i.table (c.args.level + 1 + c.heads_for-heads.result + 5 * (c.loop-i.i - 1) + 3) 0) 1) _ (marked-below), omega arith)

-- the four stores link the item, and where the marks start is all that is left
turned : (c : After-put_links) (next : ℕ) →
    next ≡ pick (eqb (get_or c.loop-i.table (c.args.level + 1 + c.heads_for-heads.result + 5 * (c.loop-i.i - 1) + 3) 0) 1) (c.loop-i.i - 1 + 1) c.loop-i.marked →
    Linking c.clear_heads.new.table c.put_links.new.table c.args.level c.args.count (c.loop-i.i - 1) next
unfolding items_start
turned c next n =
    let item : ℕ = c.args.level + 1 + c.heads_for-heads.result + 5 * (c.loop-i.i - 1) in
    turn _ _ _ _ _ _ c.loop-i.invariant.0 c.loop-i-test.true c.heads_for-heads.result c.heads_for-heads.ensures c.tag_at-tag.result c.last_group-group.result
    c.from.result _ _ next (eqb (get_or c.loop-i.table (item + 3) 0) 1) c.put_links.new.table
    c.tag_at-tag.ensures refl c.from.ensures refl c.last_group-group.ensures
    (omega (arith, c.slice_known-in-loop-i-2-1.given item))
    (rw (stored-mark (eqb (get_or c.loop-i.table (item + 3) 0) 1))) c.put_links.ensures n

pub loop-i-preserved-then-required : goal.loop-i-preserved-then-required
loop-i-preserved-then-required c = (
  turned (goal.at.loop-i-preserved-then-required c).After-put_links _ (rw c.if-required.true),
  c.loop-i.invariant.1,
  c.loop-i.invariant.2,
  c.loop-i.invariant.3,
)

pub loop-i-preserved : goal.loop-i-preserved
loop-i-preserved c = (
  turned (goal.at.loop-i-preserved c).After-put_links _ (rw (ne_eqb _ _ c.if-required.false)),
  c.loop-i.invariant.1,
  c.loop-i.invariant.2,
  c.loop-i.invariant.3,
)

pub shape_of-table : goal.shape_of-table
shape_of-table c = c.loop-i.invariant.0.kept ∙ c.clear_heads.auto.table

pub returns : goal.returns
returns c = linking_end _ _ _ _ _ _ c.loop-i.invariant.0 (omega (arith, c.loop-i-test.false))
    ∙ ap (λ (t : List ℕ). linked t c.args.level c.args.count) c.clear_heads.ensures ∙ clear_linked _ _ _ c.requires.0
