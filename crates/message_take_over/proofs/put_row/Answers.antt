-- `put_row` meets its contract: four words are written behind those of the rows.
use native.Mathlib.Omega.{arith}
use Rattle.message_take_over.specs.LayingLaws.{row_added}
use Rattle.message_take_over.specs.Written.{written_part}
use Rattle.message_take_over.proofs.put_row.Goals as goal

pub returns : goal.returns
returns c = row_added _ _ _ _ _ _ _ (omega arith) (written_part _ _ _ _ _ c.copy_from_slice.ensures.after (omega arith) (omega arith))
