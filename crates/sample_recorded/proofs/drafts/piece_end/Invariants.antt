use Rattle.std.proofs.Common.{◌-◌, ◌≤◌, length}
use Rattle.sample_recorded.proofs.drafts.piece_end.Given as goal

abbrev pub invariant-loop-end : goal.invariant-loop-end
invariant-loop-end l = (l.from ≤ l.end) × (l.end ≤ length l.rows)

abbrev pub decreases-loop-end : goal.decreases-loop-end
decreases-loop-end l = length l.rows - l.end
