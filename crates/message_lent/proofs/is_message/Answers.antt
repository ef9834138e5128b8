-- `is_message` meets its contract: what stands with its parts is a message.
use mathlib.Core.Path.{ap, ◌∙◌}
use Rattle.message_lent_rules.specs.Standing.{is_standing}
use Rattle.message_lent_rules.proofs.StandingLaws.{message-stands}
use Rattle.message_lent.proofs.is_message.Goals as goal

pub returns : goal.returns
returns c = c.is_standing.ensures ∙ ap is_standing c.message_standing.ensures ∙ message-stands _ _
