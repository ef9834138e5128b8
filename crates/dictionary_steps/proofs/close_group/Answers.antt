-- `close_group` meets its contract: a group that closes holds an item.
use borrow.Author.Tests.{eq-eqb, ne_eqb}
use Rattle.dictionary_rules.specs.Step.{closes_group, not_empty}
use Rattle.dictionary_steps.proofs.close_group.Goals as goal

pub returns-then-thing-group : goal.returns-then-thing-group
unfolding closes_group not_empty
returns-then-thing-group c = rw (eq-eqb _ _ c.if-thing-group.true)

pub returns : goal.returns
unfolding closes_group not_empty
returns c = rw (ne_eqb _ _ c.if-thing-group.false, c.grow.ensures)
