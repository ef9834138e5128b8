-- `sum_before` meets its contract: what is summed is the start of the output.
use native.Mathlib.Omega.{arith}
use lib.ListN.{length-take}
use Rattle.encode_rows.proofs.sum_before.Goals as goal

pub slice_bounds-sum_of-end : goal.slice_bounds-sum_of-end
slice_bounds-sum_of-end c = simp length-take (omega arith)
