-- `is_laid` meets its contract: what stands is laid out.
use mathlib.Core.Path.{ap, ◌∙◌}
use Rattle.message_lent_rules.specs.Standing.{is_standing}
use Rattle.message_lent_rules.proofs.StandingLaws.{laid-stands}
use Rattle.message_lent.proofs.is_laid.Goals as goal

pub returns : goal.returns
returns c = c.is_standing.ensures ∙ ap is_standing c.laid_standing.ensures ∙ laid-stands _ _
