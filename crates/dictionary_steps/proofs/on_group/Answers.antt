-- `on_group` meets its contract: each return cites the law of its way.
use mathlib.Core.Path.{sym, ◌∙◌}
use Prim.Native.Nat.{ℕ, ◌+◌, ◌≤◌, ◌<◌}
use native.Mathlib.Omega.{arith}
use Rattle.dictionary_rules.specs.Step.{on_group, inside}
use Rattle.dictionary_rules.specs.StepLaws.{looks_known, depth_small, group_unknown, group-deep, group-many, group-goes}
use Rattle.dictionary_steps.proofs.Deepest.{deeper_max}
use Rattle.dictionary_steps.proofs.on_group.Goals as goal

many : {n : ℕ} → 1024 ≤ n → 1024 < n + 1
many h = omega arith

few : {n : ℕ} → n < 1024 → n + 1 ≤ 1024
few h = omega arith

pub returns-in_default : goal.returns-in_default
unfolding on_group inside
returns-in_default c = rw c.in_default.is

pub returns-then-not-tag_known : goal.returns-then-not-tag_known
returns-then-not-tag_known c = sym (group_unknown _ _ _ c.in-Inside.is _ _
    (looks_known _ _ ∙ sym c.tag_known.ensures ∙ c.if-not-tag_known.true))

pub overflow_add-depth : goal.overflow_add-depth
overflow_add-depth c = omega (arith, depth_small c.in-Inside.thing.groups, c.depth_of-depth.ensures)

pub returns-then-depth-gt4 : goal.returns-then-depth-gt4
returns-then-depth-gt4 c = sym (group-deep _ _ _ c.in-Inside.is _ _ (looks_known _ _ ∙ sym c.tag_known.ensures
    ∙ c.if-not-tag_known.false) (rw c.depth_of-depth.ensures at c.if-depth-gt4.true))

pub returns-then-thing-ge1024 : goal.returns-then-thing-ge1024
returns-then-thing-ge1024 c = sym (group-many _ _ _ c.in-Inside.is _ _ (looks_known _ _ ∙ sym c.tag_known.ensures ∙ c.if-not-tag_known.false)
    (rw c.depth_of-depth.ensures at c.if-depth-gt4.false) (many c.if-thing-ge1024.true))

pub returns : goal.returns
returns c = sym (group-goes _ _ _ c.in-Inside.is _ _ (looks_known _ _ ∙ sym c.tag_known.ensures ∙ c.if-not-tag_known.false) (rw c.depth_of-depth.ensures at c.if-depth-gt4.false)
    (few c.if-thing-ge1024.false)
    ∙ rw (
      c.grow.ensures,
      c.open_group-inner.ensures,
      c.max-deepest.ensures,
      deeper_max,
      c.depth_of-depth.ensures,
    ))
