-- `on_item` meets its contract: each return cites the law of its way.
use mathlib.Core.Path.{sym, ◌∙◌}
use native.Mathlib.Omega.{arith}
use Rattle.dictionary_rules.specs.Step.{on_item, inside}
use Rattle.dictionary_rules.specs.StepLaws.{looks_component, depth_small, item_missing, item-deep, item-many, item-goes}
use Rattle.dictionary_steps.proofs.Deepest.{deeper_max}
use Rattle.dictionary_steps.proofs.on_item.Goals as goal

pub returns-in_default : goal.returns-in_default
unfolding on_item inside
returns-in_default c = rw c.in_default.is

pub returns-in_default-component_of : goal.returns-in_default-component_of
returns-in_default-component_of c = sym (item_missing _ _ _ c.in-Inside.is _ _ (looks_component _ _ ∙ sym c.component_of.ensures ∙ c.in_default-component_of.is))

pub overflow_add-depth : goal.overflow_add-depth
overflow_add-depth c = omega (arith, depth_small c.in-Inside.thing.groups, c.depth_of.ensures)

pub returns-then-depth-gt4 : goal.returns-then-depth-gt4
returns-then-depth-gt4 c = sym (item-deep _ _ _ c.in-Inside.is _ _ _ (looks_component _ _ ∙ sym c.component_of.ensures ∙ c.in-Some.is)
    (rw (c.depth_of.ensures, c.from.ensures) at c.if-depth-gt4.true))

pub returns-then-items-gt1024 : goal.returns-then-items-gt1024
returns-then-items-gt1024 c = sym (item-many _ _ _ c.in-Inside.is _ _ _ (looks_component _ _ ∙ sym c.component_of.ensures ∙ c.in-Some.is)
    (rw (c.depth_of.ensures, c.from.ensures) at c.if-depth-gt4.false)
    (rw (c.from-2.ensures, c.from-3.ensures) at c.if-items-gt1024.true))

pub returns : goal.returns
returns c = sym (item-goes _ _ _ c.in-Inside.is _ _ _ (looks_component _ _ ∙ sym c.component_of.ensures ∙ c.in-Some.is)
    (rw (c.depth_of.ensures, c.from.ensures) at c.if-depth-gt4.false) (rw (c.from-2.ensures, c.from-3.ensures) at c.if-items-gt1024.false)
    ∙ rw (
      c.grow.ensures,
      c.hold-holds.ensures,
      c.max-deepest.ensures,
      deeper_max,
      c.from-2.ensures,
      c.from-3.ensures,
      c.depth_of.ensures,
      c.from.ensures,
    ))
