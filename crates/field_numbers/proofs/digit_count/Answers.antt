-- `digit_count` meets its contract: a number of 32 bits is below 10 ^ 10, so nine powers of ten count its digits.
-- Nothing overflows, since each power counts at most one.
use Rattle.std.proofs.Common.{arith}
use Rattle.field_numbers.proofs.Powers.{reached, digits_reached}
use Rattle.field_numbers.proofs.digit_count.Goals as goal

pub returns : goal.returns
unfolding reached
returns c = omega (arith, digits_reached 9 c.args.n (omega arith))
