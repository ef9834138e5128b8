-- `next_field` meets its contract: a field that can't be read is refused first, then one for which there is no room.
use mathlib.Core.Path.{sym, ◌∙◌}
use Rattle.build_group_rules.proofs.ReadingLaws.{next-unreadable, next_full, next_field as next-field-law}
use Rattle.build_groups.proofs.next_field.Goals as goal

pub returns-then-progress-eq0 : goal.returns-then-progress-eq0
returns-then-progress-eq0 c = sym (next_full _ _ _ (sym c.next_field.ensures ∙ c.in-Ok.is) c.if-progress-eq0.true)

pub returns-in-Err : goal.returns-in-Err
returns-in-Err c = sym (next-unreadable _ _ _ _ (sym c.next_field.ensures ∙ c.in-Err.is))

pub returns-else-progress-eq0 : goal.returns-else-progress-eq0
returns-else-progress-eq0 c = sym (next-field-law _ _ _ (sym c.next_field.ensures ∙ c.in-Ok.is) c.if-progress-eq0.false)
