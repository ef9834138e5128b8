-- `value_of` meets its contract: past the end nothing is left, near it the rest, and elsewhere the whole value.
use mathlib.Core.Path.{sym}
use native.Mathlib.Nat.{add-sub_cancel_left}
use Rattle.field_rules.proofs.FindLaws.{rest_part}
use Rattle.field_rules.specs.Field.{value_of}
use Rattle.field_rules.proofs.FieldLaws.{value_past, value_cut}
use Rattle.field_tagvalue.proofs.value_of.Goals as goal

pub returns-then-message-place : goal.returns-then-message-place
returns-then-message-place c = sym (value_past _ _ c.if-message-place.true)

pub returns-then-left-length : goal.returns-then-left-length
returns-then-left-length c = rw rest_part (sym (value_cut _ _ c.if-left-length.true))

pub returns : goal.returns
returns c = unfold value_of in rw add-sub_cancel_left
