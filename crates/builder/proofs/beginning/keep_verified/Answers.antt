-- `keep_verified` meets its contract: the three records are stored in their order from the first word on, and each adds one at most.
use native.Mathlib.Omega.{arith}
use Rattle.builder.specs.BeginningLaws.{verified-kept}
use Rattle.builder.proofs.beginning.keep_verified.Goals as goal

pub record_of-begin_string-requires : goal.record_of-begin_string-requires
record_of-begin_string-requires c = c.requires.1.begins

pub record_of-body_length-requires : goal.record_of-body_length-requires
record_of-body_length-requires c = c.requires.1.counts

pub record_of-msg_type-requires : goal.record_of-msg_type-requires
record_of-msg_type-requires c = c.requires.1.types

pub keep-second-requires : goal.keep-second-requires
keep-second-requires c = (omega arith, omega (arith, c.keep-first.ensures.by_one, c.keep-first.auto.words))

pub keep-requires : goal.keep-requires
keep-requires c = (omega arith, omega (arith, c.keep-first.ensures.by_one, c.keep-first.auto.words, c.keep-second.ensures.by_one, c.keep-second.auto.words))

pub returns : goal.returns
returns c = (
  verified-kept _ _ _ _ c.record_of-begin_string.ensures c.record_of-body_length.ensures c.record_of-msg_type.ensures _ _ _ _ _ _ _ c.keep-first.ensures c.keep-second.ensures c.keep.ensures,
  omega (arith, c.keep-first.ensures.by_one, c.keep-second.ensures.by_one, c.keep.ensures.by_one),
)
