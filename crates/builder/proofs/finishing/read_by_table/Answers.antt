-- `read_by_table` meets its contract: the body is read behind the header, where it has no records yet.
use native.Mathlib.Omega.{arith}
use Rattle.builder.proofs.HeadedLaws.{level_told}
use Rattle.builder.proofs.finishing.read_by_table.Goals as goal

pub read_body-requires : goal.read_body-requires
read_body-requires c = record { message_len_bound = (c.requires.0, c.requires.2.stops, omega arith, c.requires.2.fits, omega (arith, c.requires.1)); index_len = c.requires.3 }

pub returns : goal.returns
returns c = record { by_index = level_told _ _ c.args.headed _ _ _ _ _ _ c.read_body.ensures.stays.before c.read_body.ensures.by_index; stays = c.read_body.ensures.stays }
