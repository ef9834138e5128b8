-- `shown_with` meets its contract: one law for each way.
use Rattle.std.proofs.Common.{sym, arith}
use Rattle.builder.specs.BuildLaws.{shows-none, shows_nothing, shows-header}
use Rattle.builder.proofs.showing.shown_with.Goals as goal

pub returns-in-1-to-4 : goal.returns-in-1-to-4
returns-in-1-to-4 c = sym (shows-header _ _ _ c.number_of.ensures (omega arith) (omega arith))

-- below the range, and above it
pub returns-in_default : goal.returns-in_default
returns-in_default c = sym (shows-none _ _ _ c.number_of.ensures (omega arith))

pub returns-in_default-2 : goal.returns-in_default-2
returns-in_default-2 c = sym (shows_nothing _ _ _ c.number_of.ensures (omega arith) (omega arith))
