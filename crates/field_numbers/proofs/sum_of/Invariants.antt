use Rattle.std.proofs.Common.{◌≡◌, ◌+◌, ◌%◌, drop}
use Rattle.field_rules.specs.CheckSum.{sum_of}
use Rattle.field_numbers.proofs.sum_of.Given as goal

abbrev pub invariant-loop-byte : goal.invariant-loop-byte
invariant-loop-byte l = (l.sum + sum_of (drop l.byte-index l.bytes)) % 256 ≡ sum_of l.bytes % 256
