-- `message_of` meets its contract: at least one byte, and no byte but zero after a zero.
use mathlib.Core.Path.{sym, ◌∙◌}
use borrow.Author.Tests.{eq-eqb, ne_eqb}
use Rattle.dictionary_rules.specs.Record.{opens_message}
use Rattle.dictionary_records.proofs.message_of.Goals as goal

pub returns-then-body-eq0 : goal.returns-then-body-eq0
unfolding opens_message
returns-then-body-eq0 c = rw (eq-eqb _ _ c.if-body-eq0.true)

pub returns-then-zero_filled : goal.returns-then-zero_filled
unfolding opens_message
returns-then-zero_filled c = rw (ne_eqb _ _ c.if-body-eq0.false, sym c.zero_filled.ensures ∙ c.if-zero_filled.true, c.eight.ensures)

pub returns : goal.returns
unfolding opens_message
returns c = rw (ne_eqb _ _ c.if-body-eq0.false, sym c.zero_filled.ensures ∙ c.if-zero_filled.false)
