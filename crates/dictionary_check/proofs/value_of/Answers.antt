-- `value_of` meets its contract, case by case.
use Rattle.dictionary_rules.specs.Check.{values_of_check}
use Rattle.dictionary_check.proofs.value_of.Goals as goal

pub returns-in-Passes : goal.returns-in-Passes
unfolding values_of_check
returns-in-Passes c = rw c.in-Passes.is

pub returns-in-TooLong : goal.returns-in-TooLong
unfolding values_of_check
returns-in-TooLong c = rw c.in-TooLong.is

pub returns-in-BadRecord : goal.returns-in-BadRecord
unfolding values_of_check
returns-in-BadRecord c = rw (c.in-BadRecord.is, c.from.ensures)

pub returns-in-NoComponent : goal.returns-in-NoComponent
unfolding values_of_check
returns-in-NoComponent c = rw (c.in-NoComponent.is, c.from-in-NoComponent.ensures)

pub returns-in-UnknownTag : goal.returns-in-UnknownTag
unfolding values_of_check
returns-in-UnknownTag c = rw c.in-UnknownTag.is

pub returns-in-EmptyGroup : goal.returns-in-EmptyGroup
unfolding values_of_check
returns-in-EmptyGroup c = rw c.in-EmptyGroup.is

pub returns-in-TooDeep : goal.returns-in-TooDeep
unfolding values_of_check
returns-in-TooDeep c = rw (c.in-TooDeep.is, c.from-in-TooDeep.ensures)

pub returns-in-Twice : goal.returns-in-Twice
unfolding values_of_check
returns-in-Twice c = rw (c.in-Twice.is, c.from-in-Twice.ensures)

pub returns-in-TooManyItems : goal.returns-in-TooManyItems
unfolding values_of_check
returns-in-TooManyItems c = rw (c.in-TooManyItems.is, c.from-in-TooManyItems.ensures)
