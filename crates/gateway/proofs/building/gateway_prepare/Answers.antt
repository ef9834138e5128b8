-- It tells the number and the value of what the preparation answers.
use Rattle.gateway.specs.PreparingLaws.{prepared-told}
use Rattle.gateway.proofs.building.gateway_prepare.Goals as goal

pub returns-clause-value : goal.returns-clause-value
returns-clause-value c = (prepared-told _ _ _ _ _ _ _ c.prepare-preparing.ensures c.number_of.ensures c.value_of.ensures c.tell.ensures).0

pub returns-clause-copy_after : goal.returns-clause-copy_after
returns-clause-copy_after c = (prepared-told _ _ _ _ _ _ _ c.prepare-preparing.ensures c.number_of.ensures c.value_of.ensures c.tell.ensures).1.0

pub returns-clause-memory_after : goal.returns-clause-memory_after
returns-clause-memory_after c = (prepared-told _ _ _ _ _ _ _ c.prepare-preparing.ensures c.number_of.ensures c.value_of.ensures c.tell.ensures).1.1.0

pub returns-clause-out_after : goal.returns-clause-out_after
returns-clause-out_after c = (prepared-told _ _ _ _ _ _ _ c.prepare-preparing.ensures c.number_of.ensures c.value_of.ensures c.tell.ensures).1.1.1
