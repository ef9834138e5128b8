use native.Mathlib.Omega.{arith}
use Rattle.encode_rows.specs.WritingLaws.{bytes_on, bytes-end}
use Rattle.encode_rows.proofs.bytes_between.Goals as goal

pub overflow_add-size : goal.overflow_add-size
overflow_add-size c = omega (arith, c.row_bytes-size.ensures.upper_bound)

pub loop-i-preserved : goal.loop-i-preserved
loop-i-preserved c = (
  omega (
    arith,
    c.loop-i.invariant.0,
    c.row_bytes-size.ensures.value,
    bytes_on c.args.words.now c.loop-i.i c.args.to c.loop-i-test.true,
  ),
  omega (arith, c.loop-i.invariant.1, c.row_bytes-size.ensures.upper_bound),
)

pub returns : goal.returns
returns c = record { value = omega (arith, c.loop-i.invariant.0, bytes-end c.args.words.now c.loop-i.i c.args.to c.loop-i-test.false); upper_bound = omega (arith, c.loop-i.invariant.1, c.requires.1) }
