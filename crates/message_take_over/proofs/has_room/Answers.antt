-- `has_room` meets its contract: either test, as it is made.
use mathlib.Core.Path.{sym}
use native.Mathlib.Omega.{arith}
use Rattle.message_take_over.specs.StepLaws.{room_not, room-left}
use Rattle.message_take_over.proofs.has_room.Goals as goal

pub returns-then-size-taken : goal.returns-then-size-taken
returns-then-size-taken c = sym (room_not _ _ _ (omega (arith)))

pub returns : goal.returns
returns c = (sym (room-left _ _ _ (omega (arith))))
