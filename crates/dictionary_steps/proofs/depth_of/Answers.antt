-- `depth_of` meets its contract, case by case.
use Rattle.dictionary_rules.specs.Step.{depth_of}
use Rattle.dictionary_steps.proofs.depth_of.Goals as goal

pub returns-in-NoGroup : goal.returns-in-NoGroup
unfolding depth_of
returns-in-NoGroup c = rw c.in-NoGroup.is

pub returns-in-OneGroup : goal.returns-in-OneGroup
unfolding depth_of
returns-in-OneGroup c = rw c.in-OneGroup.is

pub returns-in-TwoGroups : goal.returns-in-TwoGroups
unfolding depth_of
returns-in-TwoGroups c = rw c.in-TwoGroups.is

pub returns-in-ThreeGroups : goal.returns-in-ThreeGroups
unfolding depth_of
returns-in-ThreeGroups c = rw c.in-ThreeGroups.is

pub returns-in-FourGroups : goal.returns-in-FourGroups
unfolding depth_of
returns-in-FourGroups c = rw c.in-FourGroups.is
