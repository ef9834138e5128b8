use mathlib.Core.Path.{◌≡◌, refl, sym, ap, ◌∙◌}
use Prim.Native.Nat.{◌≤◌, ◌-◌, ◌*◌, ℕ, ◌+◌, ◌%◌}
use native.Mathlib.Omega.{arith}
use lib.ListN.{length, get_or, get_or-eq_default}
use Rattle.dictionary_tables_rules.specs.Table.{items_at, item_at, mark_at}
use Rattle.dictionary_tables_rules.proofs.TableLaws.{heads_at_bounds, items_from}
use Rattle.dictionary_tables_rules.proofs.MarkLaws.{links_fall, mark-empty, mark-none, mark_past, mark_hit, mark_on}
use Rattle.dictionary_tables.proofs.next_required.Goals as goal
use Rattle.dictionary_tables.proofs.next_required.Goals.{After-heads_at, After-from-word}

pub returns-then-table-level : goal.returns-then-table-level
returns-then-table-level c = sym (mark-empty _ _ (get_or-eq_default c.args.table.now 0 c.if-table-level.true) _)

pub returns-then-table-level-eq0 : goal.returns-then-table-level-eq0
returns-then-table-level-eq0 c = sym (mark-empty _ _ c.if-table-level-eq0.true _)

pub overflow_add-from-2 : goal.overflow_add-from-2
overflow_add-from-2 c = omega (arith, c.heads_at.ensures, (heads_at_bounds c.args.table.now c.args.level).1, c.if-table-level.false)

-- the items of the level start where the code says
from : (c : After-heads_at) → c.args.level + 1 + c.heads_at.result ≡ items_at c.args.table.now c.args.level
from c = items_from _ _ _ c.heads_at.ensures

-- an item that starts behind the table isn't there
pub returns-then-table-from : goal.returns-then-table-from
unfolding item_at
returns-then-table-from c = sym (mark_past c.args.table.now c.args.level c.if-table-level-eq0.false c.args.first (omega (arith, from (goal.at.returns-then-table-from c).After-heads_at, c.if-table-from.true)))

pub returns-then-room-link : goal.returns-then-room-link
unfolding item_at
returns-then-room-link c =
    let filled : get_or c.args.table.now c.args.level 0 ≡ 0 → ⊥ = c.if-table-level-eq0.false in
    sym (c.loop-link.invariant ∙ mark_past _ _ (filled) _ (omega (arith, from (goal.at.returns-then-room-link c).After-heads_at, c.if-table-from.false, c.if-room-link.true)))

pub overflow_add-at : goal.overflow_add-at
overflow_add-at c = omega (arith, c.if-table-from.false, c.if-room-link.false, c.loop-link-test.true)

pub overflow_add-at-in-loop-link : goal.overflow_add-at-in-loop-link
overflow_add-at-in-loop-link c = omega (arith, c.if-table-from.false, c.if-room-link.false, c.loop-link-test.true)

pub offset_bounds-table-at : goal.offset_bounds-table-at
offset_bounds-table-at c = omega (arith, c.if-table-from.false, c.if-room-link.false, c.loop-link-test.true)

pub bounds-table-at : goal.bounds-table-at
bounds-table-at c = omega (arith, c.if-table-from.false, c.if-room-link.false, c.loop-link-test.true)

-- the item of the link starts where the code says, and lies in the table
place : (c : After-from-word) → c.args.level + 1 + c.heads_at.result + 5 * (c.loop-link.link - 1) ≡ item_at (items_at c.args.table.now c.args.level) c.loop-link.link
unfolding item_at
place c = ap (λ (start : ℕ). start + 5 * (c.loop-link.link - 1)) (items_from _ _ _ c.heads_at.ensures)

within : (c : After-from-word) → c.args.level + 1 + c.heads_at.result + 5 * (c.loop-link.link - 1) + 5 ≤ length c.args.table.now
within c = omega (arith, c.if-table-from.false, c.if-room-link.false, c.loop-link-test.true)

pub tag_at-requires : goal.tag_at-requires
tag_at-requires c = within (goal.at.tag_at-requires c).After-from-word

-- the word of marks that was read is the item's, and so is where they go on
read : (c : After-from-word) → c.from-word.result ≡ mark_at c.args.table.now (item_at (items_at c.args.table.now c.args.level) c.loop-link.link)
unfolding mark_at
read c = c.from-word.ensures ∙ ap (mark_at c.args.table.now) (place c)

pub returns-then-word-eq1 : goal.returns-then-word-eq1
returns-then-word-eq1 c =
    let w = (goal.at.returns-then-word-eq1 c).After-from-word in
    let filled : get_or c.args.table.now c.args.level 0 ≡ 0 → ⊥ = c.if-table-level-eq0.false in
    sym (c.loop-link.invariant
    ∙ mark_hit _ _ filled _ (λ z. omega arith) (rw (place w) at (within w)) (ap (λ (word : ℕ). word % 2) (sym (read w)) ∙ c.if-word-eq1.true)
    ∙ rw (c.tag_at.ensures, c.marked_behind-behind.ensures, place w, read w))

pub loop-link-smaller : goal.loop-link-smaller
loop-link-smaller c = rw c.marked_behind-behind.ensures (links_fall _ _ _ c.loop-link-test.true c.if-room-link.false)

pub loop-link-preserved : goal.loop-link-preserved
loop-link-preserved c =
    let w = (goal.at.loop-link-preserved c).After-from-word in
    let filled : get_or c.args.table.now c.args.level 0 ≡ 0 → ⊥ = c.if-table-level-eq0.false in
    c.loop-link.invariant
    ∙ mark_on _ _ filled _ (λ z. omega arith) (rw (place w) at (within w)) (λ m. c.if-word-eq1.false (ap (λ (word : ℕ). word % 2) (read w) ∙ m))
    ∙ rw (c.marked_behind-behind.ensures, read w)

pub returns : goal.returns
returns c =
    let filled : get_or c.args.table.now c.args.level 0 ≡ 0 → ⊥ = c.if-table-level-eq0.false in
    sym (c.loop-link.invariant ∙ mark-none _ _ (filled) _ (omega (arith, c.loop-link-test.false)))

pub loop-link-init : goal.loop-link-init
loop-link-init c = refl

pub overflow_mul-at : goal.overflow_mul-at
overflow_mul-at c = omega (arith, c.if-room-link.false)
