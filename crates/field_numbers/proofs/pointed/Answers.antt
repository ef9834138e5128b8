-- `pointed` meets its contract: the quotient and one more has the number's digits ahead.
use Rattle.std.proofs.Common.{◌*◌, div-le_self, arith}
use native.Mathlib.Nat.{one-le-pow}
use Rattle.field_numbers.proofs.Fraction.{ahead-start}
use Rattle.field_numbers.proofs.pointed.Goals as goal

pub nonzero_div-result : goal.nonzero_div-result
nonzero_div-result c = omega (arith, one-le-pow c.args.count 10 (omega arith), c.requires)

pub overflow_add-result : goal.overflow_add-result
overflow_add-result c = omega (arith, div-le_self (c.args.n * 4294967296) c.args.power)

pub returns : goal.returns
returns c = rw c.from.ensures (c.requires.count_value, ahead-start _ _ _ (omega arith) c.requires.count_value c.requires.power_value)
