-- `value_of` meets its contract, case by case: a refusal by the check has the value that the check gives.
use Rattle.dictionary_prepared.specs.Memory.{value_of_preparing}
use Rattle.dictionary_prepared.proofs.value_of.Goals as goal

pub returns-in-Ready : goal.returns-in-Ready
unfolding value_of_preparing
returns-in-Ready c = rw c.in-Ready.is

pub returns-in-NoRoom : goal.returns-in-NoRoom
unfolding value_of_preparing
returns-in-NoRoom c = rw c.in-NoRoom.is

pub returns-in-Refused : goal.returns-in-Refused
unfolding value_of_preparing
returns-in-Refused c = rw (c.value_of.ensures, c.in-Refused.is)
