-- `stands_for` meets its contract, case by case.
use Rattle.dictionary_rules.specs.Step.{stands_for}
use Rattle.dictionary_steps.proofs.stands_for.Goals as goal

pub returns-in-Only : goal.returns-in-Only
unfolding stands_for
returns-in-Only c = rw c.in-Only.is

pub returns-in-Empty : goal.returns-in-Empty
unfolding stands_for
returns-in-Empty c = rw c.in-Empty.is

pub returns-in-Several : goal.returns-in-Several
unfolding stands_for
returns-in-Several c = rw c.in-Several.is
