-- `number_of` meets its contract, case by case: a refusal by the check has the number that the check gives.
use Rattle.dictionary_prepared.specs.Memory.{number_of_preparing}
use Rattle.dictionary_prepared.proofs.number_of.Goals as goal

pub returns-in-Ready : goal.returns-in-Ready
unfolding number_of_preparing
returns-in-Ready c = rw c.in-Ready.is

pub returns-in-NoRoom : goal.returns-in-NoRoom
unfolding number_of_preparing
returns-in-NoRoom c = rw c.in-NoRoom.is

pub returns-in-Refused : goal.returns-in-Refused
unfolding number_of_preparing
returns-in-Refused c = rw (c.number_of.ensures, c.in-Refused.is)
