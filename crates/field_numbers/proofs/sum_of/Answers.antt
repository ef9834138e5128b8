use Rattle.std.proofs.Common.{arith}
use Rattle.field_rules.proofs.NumberLaws.{sum_step, sum-end}
use Rattle.field_numbers.proofs.sum_of.Goals as goal

pub loop-byte-preserved : goal.loop-byte-preserved
loop-byte-preserved c = omega (arith, sum_step c.args.bytes.now c.loop-byte.byte-index c.loop-byte-test.true, c.loop-byte.invariant)

pub returns : goal.returns
returns c = omega (arith, sum-end c.args.bytes.now c.loop-byte.byte-index c.loop-byte-test.false, c.loop-byte.invariant)
