-- `held_rows` meets its contract: each answer is what its test says.
use borrow.Author.Tests.{lt-ltb, le-ltb}
use Rattle.message_rules.specs.RowChanges.{held_rows}
use Rattle.message.proofs.held_rows.Goals as goal

pub returns-then-found-end : goal.returns-then-found-end
unfolding held_rows
returns-then-found-end c = rw (lt-ltb _ _ c.if-found-end.true)

pub returns : goal.returns
unfolding held_rows
returns c = rw (le-ltb _ _ c.if-found-end.false)
