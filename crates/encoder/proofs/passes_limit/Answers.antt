-- `passes_limit` meets its contract: the new 9 and 10 come to the fields where they aren't held.
use native.Mathlib.Omega.{arith}
use Rattle.encoder.specs.Judging.{fields_at}
use Rattle.encoder.proofs.passes_limit.Goals as goal

pub passes_limit-requires : goal.passes_limit-requires
passes_limit-requires c = (c.requires.0.few, omega (arith, c.added.ensures.upper_bound, c.added-2.ensures.upper_bound), c.requires.0.whole)

pub returns : goal.returns
unfolding fields_at
returns c = rw (c.added.ensures.value, c.added-2.ensures.value) at c.passes_limit.ensures
