-- It tells what the encoding leaves.
use Rattle.gateway.specs.MessageLaws.{encoding-told}
use Rattle.gateway.proofs.messages.gateway_encode.Goals as goal

pub returns-clause-value : goal.returns-clause-value
returns-clause-value c = (encoding-told _ _ _ _ _ _ _ c.encode-encoded.ensures c.tell_encoding.ensures).0

pub returns-clause-words_after : goal.returns-clause-words_after
returns-clause-words_after c = (encoding-told _ _ _ _ _ _ _ c.encode-encoded.ensures c.tell_encoding.ensures).1.0

pub returns-clause-values_after : goal.returns-clause-values_after
returns-clause-values_after c = (encoding-told _ _ _ _ _ _ _ c.encode-encoded.ensures c.tell_encoding.ensures).1.1.0

pub returns-clause-output_after : goal.returns-clause-output_after
returns-clause-output_after c = (encoding-told _ _ _ _ _ _ _ c.encode-encoded.ensures c.tell_encoding.ensures).1.1.1.0

pub returns-clause-out_after : goal.returns-clause-out_after
returns-clause-out_after c = (encoding-told _ _ _ _ _ _ _ c.encode-encoded.ensures c.tell_encoding.ensures).1.1.1.1
