-- `on_close` meets its contract: each return cites the law of its way.
use mathlib.Core.Path.{sym, ◌∙◌}
use Rattle.dictionary_rules.specs.Step.{on_close, inside}
use Rattle.dictionary_rules.specs.StepLaws.{close-none, close-one, close-two, close_three, close-four}
use Rattle.dictionary_steps.proofs.on_close.Goals as goal

pub returns-in_default : goal.returns-in_default
unfolding on_close inside
returns-in_default c = rw c.in_default.is

pub returns-in-NoGroup : goal.returns-in-NoGroup
returns-in-NoGroup c = c.close_owner.ensures ∙ sym (close-none _ _ c.in-Inside.is _ c.in-NoGroup.is)

pub returns-in-OneGroup : goal.returns-in-OneGroup
returns-in-OneGroup c = c.close_group.ensures ∙ sym (close-one _ _ c.in-Inside.is _ _ c.in-OneGroup.is)

pub returns-in-TwoGroups : goal.returns-in-TwoGroups
returns-in-TwoGroups c = c.close_group-in-TwoGroups.ensures ∙ sym (close-two _ _ c.in-Inside.is _ _ _ c.in-TwoGroups.is)

pub returns-in-ThreeGroups : goal.returns-in-ThreeGroups
returns-in-ThreeGroups c = c.close_group-in-ThreeGroups.ensures ∙ sym (close_three _ _ c.in-Inside.is _ _ _ _ c.in-ThreeGroups.is)

pub returns-in-FourGroups : goal.returns-in-FourGroups
returns-in-FourGroups c = c.close_group-in-FourGroups.ensures ∙ sym (close-four _ _ c.in-Inside.is _ _ _ _ _ c.in-FourGroups.is)
