-- `drop_run` meets its contract: what stands between the place and the run's end goes.
use native.Mathlib.Omega.{arith}
use Rattle.build_body_rules.proofs.RunLaws.{dropped}
use Rattle.build_body.proofs.drop_run.Goals as goal

pub run_end-requires : goal.run_end-requires
run_end-requires c = (omega arith, omega arith)

pub overflow_sub-gone : goal.overflow_sub-gone
overflow_sub-gone c = omega (arith, c.run_end.ensures.from)

pub overflow_sub-result : goal.overflow_sub-result
overflow_sub-result c = omega (arith, c.run_end.ensures.to)

pub returns : goal.returns
returns c = rw c.remove.ensures (dropped _ _ _ _ c.run_end.ensures (omega arith))
