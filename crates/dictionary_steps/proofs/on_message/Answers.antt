-- `on_message` meets its contract: at top level, and only once.
use mathlib.Core.Path.{sym, ◌∙◌}
use Rattle.dictionary_rules.specs.Step.{on_message, at_top_lem, once_message}
use Rattle.dictionary_rules.specs.Index.{looks_at}
use Rattle.dictionary_steps.proofs.on_message.Goals as goal

pub returns-in_default : goal.returns-in_default
unfolding on_message at_top_lem
returns-in_default c = rw c.in_default.is

pub returns-in_default-message_of : goal.returns-in_default-message_of
unfolding on_message at_top_lem once_message looks_at
returns-in_default-message_of c = rw (c.in-TopLevel.is, sym c.message_of.ensures ∙ c.in_default-message_of.is)

pub returns : goal.returns
unfolding on_message at_top_lem once_message looks_at
returns c = rw (c.in-TopLevel.is, sym c.message_of.ensures ∙ c.in-None.is, c.fresh.ensures)
