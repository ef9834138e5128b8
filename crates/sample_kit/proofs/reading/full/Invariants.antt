use Rattle.std.proofs.Common.{◌-◌, ◌≤◌, length}
use Rattle.sample_kit.proofs.reading.full.Given as goal

abbrev pub invariant-loop-size : goal.invariant-loop-size
invariant-loop-size g l = l.size ≤ length l.bytes

abbrev pub decreases-loop-size : goal.decreases-loop-size
decreases-loop-size g l = length l.bytes - l.size
