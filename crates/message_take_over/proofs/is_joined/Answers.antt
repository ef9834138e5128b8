-- `is_joined` meets its contract: one case to a variant.
use mathlib.Core.Path.{sym, ap}
use Rattle.message_take_over.specs.Taking.{is_joined}
use Rattle.message_take_over.proofs.is_joined.Goals as goal

pub returns-in-Open : goal.returns-in-Open
unfolding is_joined
returns-in-Open c = sym (ap is_joined c.in-Open.is)

pub returns-in-Entry : goal.returns-in-Entry
unfolding is_joined
returns-in-Entry c = sym (ap is_joined c.in-Entry.is)

pub returns-in-Nowhere : goal.returns-in-Nowhere
unfolding is_joined
returns-in-Nowhere c = sym (ap is_joined c.in-Nowhere.is)
