use Rattle.std.proofs.Common.{length}
use Rattle.tool_fields.proofs.saying.escaped.Given as goal

abbrev pub decreases-loop-size : goal.decreases-loop-size
decreases-loop-size g l = length l.rest
