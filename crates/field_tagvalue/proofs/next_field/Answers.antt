-- `next_field` meets its contract: past the message's end there is no `=`, and elsewhere the part that starts at the cursor is read.
use mathlib.Core.Path.{sym}
use native.Mathlib.Omega.{arith}
use lib.ListN.{length-drop}
use Rattle.field_rules.proofs.FindLaws.{rest_part}
use Rattle.field_rules.specs.Field.{field_at}
use Rattle.field_rules.proofs.FieldLaws.{past_end}
use Rattle.field_tagvalue.proofs.next_field.Goals as goal

pub returns-then-message-at : goal.returns-then-message-at
returns-then-message-at c = sym (past_end _ _ _ (omega arith))

pub field_from-requires : goal.field_from-requires
field_from-requires c = rw rest_part (omega (arith, length-drop c.args.cursor.at c.args.message.now, c.well_formed.1.0.1))

pub returns : goal.returns
unfolding field_at
returns c = rw rest_part at c.field_from.ensures
