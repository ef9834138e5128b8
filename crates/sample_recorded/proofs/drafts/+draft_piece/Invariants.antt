-- A draft's measure is twice what is left of the depth and one, a piece's is twice.
use Rattle.std.proofs.Common.{◌+◌, ◌-◌, ◌*◌, length}
use Rattle.sample_recorded.proofs.drafts.+draft_piece.Given as goal

abbrev pub decreases-draft : goal.decreases-draft
decreases-draft l = 2 * (9 - l.level) + 1

abbrev pub decreases-piece : goal.decreases-piece
decreases-piece l = 2 * (9 - l.level)

abbrev pub decreases-draft-loop-from : goal.decreases-draft-loop-from
decreases-draft-loop-from l = length l.rows - l.from
