-- `enter` meets its contract: five words are set.
use native.Mathlib.Omega.{arith}
use lib.ListN.{length-set}
use Rattle.message_allowed.specs.Branch.{grown}
use Rattle.message_allowed.proofs.enter.Goals as goal

pub bounds-table-top : goal.bounds-table-top
bounds-table-top c = simp length-set (omega (arith, c.level_of.ensures))

pub returns : goal.returns
unfolding grown
returns c = rw (c.level_of.ensures)
