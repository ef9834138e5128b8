-- The records that are shown are stored one after the other, from the first on.
use Rattle.std.proofs.Common.{◌≡◌}
use Rattle.face_messages.specs.Lent.{field_record_at}
use Rattle.gateway.specs.Sets.{sets}
use Rattle.gateway.proofs.building.fill.Given as goal

abbrev pub invariant-loop-i : goal.invariant-loop-i
invariant-loop-i l = l.records ≡ sets (field_record_at l.words l.shown) l.fn.records l.i
