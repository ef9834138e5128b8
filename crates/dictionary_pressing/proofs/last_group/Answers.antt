use mathlib.Core.Path.{refl, sym, ◌∙◌}
use Prim.Native.Nat.{◌+◌, ◌-◌, ◌*◌, ◌≤◌}
use native.Mathlib.Omega.{arith}
use lib.ListN.{length}
use Rattle.dictionary_pressing.specs.ChainLaws.{chain_none, chain_within, chain_falls, chain_plain, chain_group, chain_on}
use Rattle.dictionary_pressing.proofs.last_group.Goals as goal
use Rattle.dictionary_pressing.proofs.last_group.Goals.{In-loop-next}

pub loop-next-init : goal.loop-next-init
loop-next-init c = λ x. (x, refl)

-- the item that the link leads to lies in the table
within : (c : In-loop-next) → c.args.start + 5 * (c.loop-next.next - 1) + 5 ≤ length c.args.table.now
within c = chain_within _ _ _ _ (c.loop-next.invariant c.requires).0 c.loop-next-test.true

pub overflow_mul-at : goal.overflow_mul-at
overflow_mul-at c = omega (arith, within (goal.at.overflow_mul-at c).In-loop-next)

pub overflow_add-at : goal.overflow_add-at
overflow_add-at c = omega (arith, within (goal.at.overflow_add-at c).In-loop-next)

pub tag_at-requires : goal.tag_at-requires
tag_at-requires c = within (goal.at.tag_at-requires c).In-loop-next

pub overflow_add-at-then-tag_at-tag : goal.overflow_add-at-then-tag_at-tag
overflow_add-at-then-tag_at-tag c = omega (arith, within (goal.at.overflow_add-at-then-tag_at-tag c).In-loop-next)

pub offset_bounds-table-at : goal.offset_bounds-table-at
offset_bounds-table-at c = omega (arith, within (goal.at.offset_bounds-table-at c).In-loop-next)

pub bounds-table-at : goal.bounds-table-at
bounds-table-at c = omega (arith, within (goal.at.bounds-table-at c).In-loop-next)

pub returns-then-table-at-eq0 : goal.returns-then-table-at-eq0
returns-then-table-at-eq0 c = λ x. sym ((c.loop-next.invariant x).1 ∙ chain_plain _ _ _ _ (c.loop-next.invariant x).0 c.loop-next-test.true _ (sym c.tag_at.ensures ∙ c.if-tag_at-tag.true) c.if-table-at-eq0.true)

pub overflow_add-result : goal.overflow_add-result
overflow_add-result c = omega (arith, within (goal.at.overflow_add-result c).In-loop-next)

pub offset_bounds-table-at-then-tag_at-tag : goal.offset_bounds-table-at-then-tag_at-tag
offset_bounds-table-at-then-tag_at-tag c = omega (arith, within (goal.at.offset_bounds-table-at-then-tag_at-tag c).In-loop-next)

pub bounds-table-at-then-tag_at-tag : goal.bounds-table-at-then-tag_at-tag
bounds-table-at-then-tag_at-tag c = omega (arith, within (goal.at.bounds-table-at-then-tag_at-tag c).In-loop-next)

pub returns-then-tag_at-tag : goal.returns-then-tag_at-tag
returns-then-tag_at-tag c = λ x. sym ((c.loop-next.invariant x).1 ∙ chain_group _ _ _ _ (c.loop-next.invariant x).0 c.loop-next-test.true _ (sym c.tag_at.ensures ∙ c.if-tag_at-tag.true) c.if-table-at-eq0.false)

pub overflow_add-at-in-loop-next : goal.overflow_add-at-in-loop-next
overflow_add-at-in-loop-next c = omega (arith, within (goal.at.overflow_add-at-in-loop-next c).In-loop-next)

pub offset_bounds-table-at-in-loop-next : goal.offset_bounds-table-at-in-loop-next
offset_bounds-table-at-in-loop-next c = omega (arith, within (goal.at.offset_bounds-table-at-in-loop-next c).In-loop-next)

pub bounds-table-at-in-loop-next : goal.bounds-table-at-in-loop-next
bounds-table-at-in-loop-next c = omega (arith, within (goal.at.bounds-table-at-in-loop-next c).In-loop-next)

pub loop-next-smaller : goal.loop-next-smaller
loop-next-smaller c = rw c.from-next.ensures (chain_falls _ _ _ _ (c.loop-next.invariant c.requires).0 c.loop-next-test.true)

pub loop-next-preserved : goal.loop-next-preserved
loop-next-preserved c = λ x. let n = chain_on _ _ _ _ (c.loop-next.invariant x).0 c.loop-next-test.true c.from-next.result _ (λ q. c.if-tag_at-tag.false (c.tag_at.ensures ∙ q))
    c.from-next.ensures in
    (n.0, (c.loop-next.invariant x).1 ∙ n.1)

pub returns : goal.returns
returns c = λ x. sym ((c.loop-next.invariant x).1 ∙ chain_none _ _ _ _ (c.loop-next.invariant x).0 (omega (arith, c.loop-next-test.false)) _)
