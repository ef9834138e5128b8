-- `keep` meets its contract: what lies between the two places is copied within the store, to its front, unless it stands there.
use Rattle.std.proofs.Common.{zero-add}
use Rattle.frame_hunter.proofs.Moves.{at_front}
use Rattle.frame_hunter.proofs.keep.Goals as goal

pub returns-then-from-eq0 : goal.returns-then-from-eq0
returns-then-from-eq0 c = at_front _ _ _ c.if-from-eq0.true

pub returns : goal.returns
returns c = rw zero-add at c.copy_within.ensures.after
