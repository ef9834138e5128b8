-- `store` meets its contract: no message is refused first.
use mathlib.Core.Path.{sym, ◌∙◌}
use Rattle.message_rules.specs.Changes.{storing}
use Rattle.message_rules.specs.ChangeLaws.{no_message}
use Rattle.message_rules.specs.BlankLaws.{never_blank}
use Rattle.message.proofs.store.Goals as goal

pub returns-then-not-is_message : goal.returns-then-not-is_message
unfolding storing
returns-then-not-is_message c = sym (no_message _ _ _ (sym c.is_message.ensures ∙ c.if-not-is_message.true))

pub store_in-requires : goal.store_in-requires
store_in-requires c = record { values_value = sym c.is_message.ensures ∙ c.if-not-is_message.false; blank = never_blank _ _ }

pub returns : goal.returns
returns c = c.store_in.ensures
