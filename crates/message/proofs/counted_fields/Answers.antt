-- `counted_fields` meets its contract: few rows aren't counted.
use borrow.Author.Tests.{lt-ltb, le-ltb}
use Rattle.message_rules.specs.RowChanges.{counted_fields}
use Rattle.message.proofs.counted_fields.Goals as goal

pub returns-then-count-lt1024 : goal.returns-then-count-lt1024
unfolding counted_fields
returns-then-count-lt1024 c = rw (lt-ltb _ _ c.if-count-lt1024.true)

pub returns : goal.returns
unfolding counted_fields
returns c = rw (le-ltb _ _ c.if-count-lt1024.false) c.fields_in.ensures
