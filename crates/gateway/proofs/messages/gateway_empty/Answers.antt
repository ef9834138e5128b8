-- It tells what the change leaves.
use Rattle.gateway.specs.MessageLaws.{change_told}
use Rattle.gateway.proofs.messages.gateway_empty.Goals as goal

pub returns-clause-value : goal.returns-clause-value
returns-clause-value c = (change_told _ _ _ _ _ _ c.empty-change.ensures c.tell_change.ensures).0

pub returns-clause-words_after : goal.returns-clause-words_after
returns-clause-words_after c = (change_told _ _ _ _ _ _ c.empty-change.ensures c.tell_change.ensures).1.0

pub returns-clause-values_after : goal.returns-clause-values_after
returns-clause-values_after c = (change_told _ _ _ _ _ _ c.empty-change.ensures c.tell_change.ensures).1.1.0
