-- `put_rows` meets its contract: what is not copied is zero in either.
use mathlib.Core.Path.{refl}
use native.Mathlib.Omega.{arith}
use Rattle.std.proofs.Common.{length-take}
use Rattle.message_take_over.specs.Written.{blank-whole, rows_put}
use Rattle.message_take_over.proofs.put_rows.Goals as goal

pub bounds-laid-0 : goal.bounds-laid-0
bounds-laid-0 c = omega (arith, blank-whole _ c.requires.0)

pub slice_bounds-copy_from_slice-end-3 : goal.slice_bounds-copy_from_slice-end-3
slice_bounds-copy_from_slice-end-3 c = simp length-take (omega (arith, blank-whole _ c.requires.0, c.requires.0.few))

pub copy_from_slice-requires : goal.copy_from_slice-requires
copy_from_slice-requires c = simp length-take (omega (arith, blank-whole _ c.requires.0, c.requires.0.few, c.requires.1))

pub returns : goal.returns
returns c = rows_put _ c.requires.0 _ _ _ _ refl c.requires.1 c.copy_from_slice.ensures.after (c.fill.ensures.after (λ _ e. e))
