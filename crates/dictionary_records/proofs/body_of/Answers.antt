-- `body_of` meets its contract, kind by kind: the body is as long as its kind says, and is read as its kind reads it.
use mathlib.Core.Path.{sym, ◌∙◌}
use native.Mathlib.Omega.{arith}
use Rattle.dictionary_rules.specs.Record.{record_body, known_tag, opens_component, field_item_lem, component_item_lem, opens_group}
use Rattle.dictionary_rules.specs.RecordLaws.{length_tag, length-component, length-message, length-field, length-item, length-group, body-other}
use Rattle.dictionary_records.proofs.body_of.Goals as goal

pub four-tag-requires : goal.four-tag-requires
four-tag-requires c = omega (arith, length_tag _ c.in-1.is, c.requires)

pub two-requires : goal.two-requires
two-requires c = omega (arith, length-component _ c.in-2.is, c.requires)

pub message_of-requires : goal.message_of-requires
message_of-requires c = c.requires ∙ length-message _ c.in-3.is

pub four-tag-requires-in-4 : goal.four-tag-requires-in-4
four-tag-requires-in-4 c = omega (arith, length-field _ c.in-4.is, c.requires)

pub bounds-body-4 : goal.bounds-body-4
bounds-body-4 c = omega (arith, length-field _ c.in-4.is, c.requires)

pub bounds-body-2 : goal.bounds-body-2
bounds-body-2 c = omega (arith, length-item _ c.in-5.is, c.requires)

pub two-requires-in-5 : goal.two-requires-in-5
two-requires-in-5 c = omega (arith, length-item _ c.in-5.is, c.requires)

pub four-tag-requires-in-6 : goal.four-tag-requires-in-6
four-tag-requires-in-6 c = omega (arith, length-group _ c.in-6.is, c.requires)

pub bounds-body-4-in-6 : goal.bounds-body-4-in-6
bounds-body-4-in-6 c = omega (arith, length-group _ c.in-6.is, c.requires)

pub returns-in-1 : goal.returns-in-1
unfolding record_body known_tag
returns-in-1 c = rw c.in-1.is (c.tagged.ensures ∙ rw c.four-tag.ensures)

pub returns-in-2 : goal.returns-in-2
unfolding record_body opens_component
returns-in-2 c = rw (c.in-2.is, c.two.ensures)

pub returns-in-3 : goal.returns-in-3
unfolding record_body
returns-in-3 c = rw c.in-3.is c.message_of.ensures

pub returns-in-4 : goal.returns-in-4
unfolding record_body field_item_lem
returns-in-4 c = rw c.in-4.is (c.marked.ensures ∙ rw (c.tagged-in-4.ensures, c.four-tag-in-4.ensures))

pub returns-in-5 : goal.returns-in-5
unfolding record_body component_item_lem
returns-in-5 c = rw c.in-5.is (c.marked-in-5.ensures ∙ rw c.two-in-5.ensures)

pub returns-in-6 : goal.returns-in-6
unfolding record_body opens_group
returns-in-6 c = rw c.in-6.is (c.marked-in-6.ensures ∙ rw (c.tagged-in-6.ensures, c.four-tag-in-6.ensures))

pub returns-in-7 : goal.returns-in-7
unfolding record_body
returns-in-7 c = rw c.in-7.is

pub returns-in_default : goal.returns-in_default
returns-in_default c = sym (body-other _ _ (λ e. omega arith) (λ e. omega arith) (λ e. omega arith) (λ e. omega arith) (λ e. omega arith) (λ e. omega arith) (λ e. omega arith))
