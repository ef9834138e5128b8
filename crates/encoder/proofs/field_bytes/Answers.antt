-- `field_bytes` meets its contract: the row that is found, where there is one.
use mathlib.Core.Path.{sym, ◌∙◌}
use native.Mathlib.Omega.{arith}
use Rattle.encoder.specs.JudgingLaws.{size-there, size_none}
use Rattle.encoder.proofs.field_bytes.Goals as goal

pub returns-then-at-span : goal.returns-then-at-span
returns-then-at-span c = record { value = c.row_bytes.ensures.value ∙ size-there _ _ _ _ c.find_row-at.ensures c.if-at-span.true; upper_bound = c.row_bytes.ensures.upper_bound }

pub returns : goal.returns
returns c = record { value = sym (size_none _ _ _ _ c.find_row-at.ensures c.if-at-span.false); upper_bound = omega arith }
