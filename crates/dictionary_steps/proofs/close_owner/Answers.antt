-- `close_owner` meets its contract, case by case.
use Rattle.dictionary_rules.specs.Step.{closes_owner}
use Rattle.dictionary_steps.proofs.close_owner.Goals as goal

pub returns-in_default : goal.returns-in_default
unfolding closes_owner
returns-in_default c = rw c.in_default.is

pub returns : goal.returns
unfolding closes_owner
returns c = rw (c.in-OfComponent.is, c.stands_for.ensures)
