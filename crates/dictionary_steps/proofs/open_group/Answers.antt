-- `open_group` meets its contract, case by case.
use Rattle.dictionary_rules.specs.Step.{opened}
use Rattle.dictionary_steps.proofs.open_group.Goals as goal

pub returns-in-NoGroup : goal.returns-in-NoGroup
unfolding opened
returns-in-NoGroup c = rw c.in-NoGroup.is

pub returns-in-OneGroup : goal.returns-in-OneGroup
unfolding opened
returns-in-OneGroup c = rw c.in-OneGroup.is

pub returns-in-TwoGroups : goal.returns-in-TwoGroups
unfolding opened
returns-in-TwoGroups c = rw c.in-TwoGroups.is

pub returns-in-ThreeGroups : goal.returns-in-ThreeGroups
unfolding opened
returns-in-ThreeGroups c = rw c.in-ThreeGroups.is

pub returns-in-FourGroups : goal.returns-in-FourGroups
unfolding opened
returns-in-FourGroups c = rw c.in-FourGroups.is
