-- `next_field` meets its contract: each way is a case of the definition.
use mathlib.Core.Path.{sym, ◌∙◌}
use Rattle.build_parts.specs.PartLaws.{next-unreadable, next-crowded, next_got}
use Rattle.build_parts.proofs.next_field.Goals as goal

pub returns-then-room-eq0 : goal.returns-then-room-eq0
returns-then-room-eq0 c = sym (next-crowded _ _ _ (sym c.next_field.ensures ∙ c.in-Ok.is) c.if-room-eq0.true)

pub returns-in-Err : goal.returns-in-Err
returns-in-Err c = sym (next-unreadable _ _ _ _ (sym c.next_field.ensures ∙ c.in-Err.is))

pub returns-else-room-eq0 : goal.returns-else-room-eq0
returns-else-room-eq0 c = sym (next_got _ _ _ (sym c.next_field.ensures ∙ c.in-Ok.is) c.if-room-eq0.false)
