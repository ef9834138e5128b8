-- `is_standing` meets its contract: one case to a variant.
use mathlib.Core.Path.{sym, ap}
use Rattle.message_lent_rules.specs.Standing.{is_standing}
use Rattle.message_lent.proofs.is_standing.Goals as goal

pub returns-in-Refused : goal.returns-in-Refused
unfolding is_standing
returns-in-Refused c = sym (ap is_standing c.in-Refused.is)

pub returns-in-Uncounted : goal.returns-in-Uncounted
unfolding is_standing
returns-in-Uncounted c = sym (ap is_standing c.in-Uncounted.is)

pub returns-in-Counted : goal.returns-in-Counted
unfolding is_standing
returns-in-Counted c = sym (ap is_standing c.in-Counted.is)
