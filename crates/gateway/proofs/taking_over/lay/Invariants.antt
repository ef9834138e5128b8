-- The lent records are put into the words one after the other, from the first on.
use Rattle.std.proofs.Common.{◌≡◌}
use Rattle.face_messages.specs.Lent.{put_fields}
use Rattle.gateway.proofs.taking_over.lay.Given as goal

abbrev pub invariant-loop-i : goal.invariant-loop-i
invariant-loop-i l = l.words ≡ put_fields l.records l.i l.fn.words
