-- `marked` meets its contract: a mark is 0 or 1.
use borrow.Author.Tests.{le-ltb, lt-ltb}
use Rattle.dictionary_rules.specs.Record.{with_mark}
use Rattle.dictionary_records.proofs.marked.Goals as goal

pub returns-then-mark-gt1 : goal.returns-then-mark-gt1
unfolding with_mark
returns-then-mark-gt1 c = rw (lt-ltb _ _ c.if-mark-gt1.true)

pub returns : goal.returns
unfolding with_mark
returns c = rw (le-ltb _ _ c.if-mark-gt1.false)
