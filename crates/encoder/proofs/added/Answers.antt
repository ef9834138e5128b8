-- `added` meets its contract.
use mathlib.Core.Path.{sym, ◌∙◌}
use native.Mathlib.Omega.{arith}
use Rattle.encoder.specs.Judging.{added_at}
use Rattle.encoder.proofs.added.Goals as goal

pub returns-then-holds : goal.returns-then-holds
unfolding added_at
returns-then-holds c = record { value = rw (sym c.holds.ensures ∙ c.if-holds.true); upper_bound = omega arith }

pub returns : goal.returns
unfolding added_at
returns c = record { value = rw (sym c.holds.ensures ∙ c.if-holds.false); upper_bound = omega arith }
