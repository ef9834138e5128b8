-- `may_become` meets its contract: its test is the definition's.
use borrow.Author.Tests.{lt-ltb, le-ltb}
use Rattle.frame_verdict_rules.specs.Readers.{may_become}
use Rattle.frame_verdict.proofs.may_become.Goals as goal

pub returns-then-n-lt4 : goal.returns-then-n-lt4
unfolding may_become
returns-then-n-lt4 c = rw (lt-ltb _ _ c.if-n-lt4.true)

pub returns-else-n-lt4 : goal.returns-else-n-lt4
unfolding may_become
returns-else-n-lt4 c = rw (le-ltb _ _ c.if-n-lt4.false)
