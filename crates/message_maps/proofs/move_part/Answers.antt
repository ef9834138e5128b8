-- `move_part` meets its contract where it moves nothing: the part stands there already.
use Rattle.std.proofs.Common.{sym}
use Rattle.message_maps.specs.SpliceLaws.{moved-nowhere}
use Rattle.message_maps.proofs.move_part.Goals as goal

pub returns-else-at-from : goal.returns-else-at-from
returns-else-at-from g c =
    let a = c.args in
    sym (moved-nowhere a.from a.to a.at a.cells.now c.requires.0 c.requires.1 c.if-at-from.false)
