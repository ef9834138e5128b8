-- `remove` meets its contract: no message is refused first.
use mathlib.Core.Path.{sym, ◌∙◌}
use Rattle.message_rules.specs.Changes.{removing}
use Rattle.message_rules.specs.ChangeLaws.{no_message}
use Rattle.message.proofs.remove.Goals as goal

pub returns-then-not-is_message : goal.returns-then-not-is_message
unfolding removing
returns-then-not-is_message c = sym (no_message _ _ _ (sym c.is_message.ensures ∙ c.if-not-is_message.true))

pub remove_in-requires : goal.remove_in-requires
remove_in-requires c = sym c.is_message.ensures ∙ c.if-not-is_message.false

pub returns : goal.returns
returns c = c.remove_in.ensures
