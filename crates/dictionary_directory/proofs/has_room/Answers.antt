-- `has_room` meets its contract: each way cites its law.
use Rattle.std.proofs.Common.{sym, ◌∙◌, le-ltb}
use Rattle.dictionary_directory.proofs.LayingFacts.{room_far, room_near}
use Rattle.dictionary_directory.proofs.has_room.Goals as goal

pub returns-then-free-lt65536 : goal.returns-then-free-lt65536
returns-then-free-lt65536 c = sym (room_near _ _ _ c.if-free-lt65536.true)

pub returns-else-free-lt65536 : goal.returns-else-free-lt65536
returns-else-free-lt65536 c = le-ltb _ _ c.if-free-lt65536.false ∙ sym (room_far _ _ _ c.if-free-lt65536.false)
