use native.Mathlib.Omega.{arith}
use Rattle.message_maps.specs.RowsLaws.{sizes-on, sizes-end}
use Rattle.message_maps.proofs.size_between.Goals as goal

pub loop-i-preserved : goal.loop-i-preserved
loop-i-preserved c = (
  omega (arith, c.loop-i.invariant.0, c.size_of-size.ensures.value, sizes-on c.args.words.now c.loop-i.i c.args.to c.loop-i-test.true),
  omega (arith, c.loop-i.invariant.1, c.size_of-size.ensures.upper_bound),
)

pub returns : goal.returns
returns c = omega (
  arith,
  c.loop-i.invariant.0,
  sizes-end c.args.words.now c.loop-i.i c.args.to c.loop-i-test.false,
)
