-- `body_length` meets its contract: the sizes of the three fields are taken from that of all.
use native.Mathlib.Omega.{arith}
use Rattle.encoder.specs.Judging.{all_bytes, body_at}
use Rattle.encoder.proofs.body_length.Goals as goal

pub overflow_sub-result : goal.overflow_sub-result
unfolding all_bytes
overflow_sub-result c = omega (arith, c.field_bytes-eight.ensures.value, c.field_bytes-nine.ensures.value, c.field_bytes-ten.ensures.value, c.bytes_between-all.ensures.value, c.requires.tail_bound)

pub returns : goal.returns
unfolding body_at all_bytes
returns c = rw (c.field_bytes-eight.ensures.value, c.field_bytes-nine.ensures.value, c.field_bytes-ten.ensures.value, c.bytes_between-all.ensures.value)
