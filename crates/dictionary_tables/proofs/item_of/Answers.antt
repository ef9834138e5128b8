use mathlib.Core.Path.{◌≡◌, sym, ◌∙◌}
use Prim.Native.Nat.{◌+◌, ◌-◌, ◌*◌, ◌%◌, ◌≤◌}
use native.Mathlib.Omega.{arith}
use native.Mathlib.Nat.{mod-lt}
use lib.ListN.{length}
use Rattle.dictionary_tables_rules.specs.Table.{items_at, item_at, tag_at, group_at, later_at, item_of}
use Rattle.dictionary_tables_rules.proofs.TableLaws.{heads_at_bounds, item_no_head, follow_none, follow_past, follow_hit, follow_stop, follow_on}
use Rattle.dictionary_tables.proofs.item_of.Goals as goal
use Rattle.dictionary_tables.proofs.item_of.Goals.{After-heads_at-heads}

pub returns-then-table-level : goal.returns-then-table-level
returns-then-table-level c = sym (item_no_head _ _ _ (omega (arith, c.if-table-level.true)))

-- there are 8 heads or 128
heads : (c : After-heads_at-heads) → (8 ≤ c.heads_at-heads.result) × (c.heads_at-heads.result ≤ 128)
heads c = let b = heads_at_bounds c.args.table.now c.args.level in
    (omega (arith, b.0, c.heads_at-heads.ensures), omega (arith, b.1, c.heads_at-heads.ensures))

pub nonzero_rem-head : goal.nonzero_rem-head
nonzero_rem-head c = omega (arith, (heads c).0)

pub overflow_add-head-2 : goal.overflow_add-head-2
overflow_add-head-2 c =
    let some : 1 ≤ c.heads_at-heads.result = omega (arith, (heads c).0) in
    omega (arith, (heads c).1, mod-lt c.args.tag some, c.if-table-level.false)

pub returns-then-table-head : goal.returns-then-table-head
returns-then-table-head c = sym (item_no_head _ _ _ (rw c.heads_at-heads.ensures at c.if-table-head.true))

pub overflow_add-from-2 : goal.overflow_add-from-2
overflow_add-from-2 c = omega (arith, (heads (goal.at.overflow_add-from-2 c).After-heads_at-heads).1, c.if-table-level.false)

pub loop-link-init : goal.loop-link-init
loop-link-init c = (
  omega (arith, (heads (goal.at.loop-link-init c).After-heads_at-heads).1, c.if-table-level.false),
  omega (arith, c.from-link.ensures, c.shared_slice_known-2-1.given (c.args.level + 1 + c.args.tag % c.heads_at-heads.result)),
  unfold item_of items_at in rw (c.from-link.ensures, c.heads_at-heads.ensures),
)

pub overflow_mul-at : goal.overflow_mul-at
overflow_mul-at c = omega (arith, c.loop-link.invariant.1)

pub overflow_add-at : goal.overflow_add-at
overflow_add-at c = omega (arith, c.loop-link.invariant.1, c.loop-link.invariant.0)

pub overflow_add-at-in-loop-link : goal.overflow_add-at-in-loop-link
overflow_add-at-in-loop-link c = omega (arith, c.loop-link.invariant.1, c.loop-link.invariant.0)

pub returns-then-table-at : goal.returns-then-table-at
unfolding item_at
returns-then-table-at c = sym (c.loop-link.invariant.2 ∙ follow_past _ _ _ _ (omega (arith, c.if-table-at.true)))

pub returns-then-tag_at-tag : goal.returns-then-tag_at-tag
unfolding item_at group_at
returns-then-tag_at-tag c =
    let within : c.args.level + 1 + c.heads_at-heads.result + 5 * (c.loop-link.link - 1) + 5 ≤ length c.args.table.now = omega (arith, c.if-table-at.false) in
    sym (c.loop-link.invariant.2
    ∙ follow_hit _ _ _ _ (λ z. omega arith) (within) (sym c.tag_at.ensures ∙ c.if-tag_at-tag.true)
    ∙ rw c.from.ensures)

pub returns-then-later-link : goal.returns-then-later-link
unfolding item_at later_at
returns-then-later-link c =
    let within : c.args.level + 1 + c.heads_at-heads.result + 5 * (c.loop-link.link - 1) + 5 ≤ length c.args.table.now = omega (arith, c.if-table-at.false) in
    let other : tag_at c.args.table.now (c.args.level + 1 + c.heads_at-heads.result + 5 * (c.loop-link.link - 1)) ≡ c.args.tag → ⊥ = λ e. c.if-tag_at-tag.false (c.tag_at.ensures ∙ e) in
    sym (c.loop-link.invariant.2
    ∙ follow_stop _ _ _ _ (λ z. omega arith) (within) (other) (omega (arith, c.if-later-link.true, c.from-later.ensures)))

pub loop-link-smaller : goal.loop-link-smaller
loop-link-smaller c =
    let word : c.from-later.result ≤ 65535 = let level = c.args.level in
    omega (arith, c.from-later.ensures, c.shared_slice_known-in-loop-link-1.given (level + 1 + c.heads_at-heads.result + 5 * (c.loop-link.link - 1) + 4)) in
    omega (arith, word, c.if-later-link.false)

pub loop-link-preserved : goal.loop-link-preserved
unfolding item_at later_at
loop-link-preserved c =
    let within : c.args.level + 1 + c.heads_at-heads.result + 5 * (c.loop-link.link - 1) + 5 ≤ length c.args.table.now = omega (arith, c.if-table-at.false) in
    let other : tag_at c.args.table.now (c.args.level + 1 + c.heads_at-heads.result + 5 * (c.loop-link.link - 1)) ≡ c.args.tag → ⊥ = λ e. c.if-tag_at-tag.false (c.tag_at.ensures ∙ e) in
    let word : c.from-later.result ≤ 65535 = let level = c.args.level in
    omega (arith, c.from-later.ensures, c.shared_slice_known-in-loop-link-1.given (level + 1 + c.heads_at-heads.result + 5 * (c.loop-link.link - 1) + 4)) in (
      c.loop-link.invariant.0,
      word,
      c.loop-link.invariant.2
          ∙ follow_on _ _ _ _ (λ z. omega arith) (within) (other) (omega (arith, c.if-later-link.false, c.from-later.ensures))
          ∙ rw c.from-later.ensures,
    )

pub returns : goal.returns
returns c = sym (c.loop-link.invariant.2 ∙ follow_none _ _ _ _ (omega (arith, c.loop-link-test.false)))

pub tag_at-requires : goal.tag_at-requires
tag_at-requires c =
    let within : c.args.level + 1 + c.heads_at-heads.result + 5 * (c.loop-link.link - 1) + 5 ≤ length c.args.table.now = omega (arith, c.if-table-at.false) in
    within
