-- The words of so many records are taken over.
use Rattle.face_messages.specs.TakeLaws.{took_number, took_words, took_values}
use Rattle.face_messages.proofs.take_over.Goals as goal

pub returns : goal.returns
returns c = (
  took_number _ _ _ _ _ c.take_over-taken.ensures c.taken_number.ensures,
  took_words _ _ _ _ c.take_over-taken.ensures,
  took_values _ _ _ _ c.take_over-taken.ensures,
  c.tell.ensures,
)
