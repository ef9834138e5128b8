-- `plain_tags` meets its contract: it lists from behind the record that opens the component.
use Rattle.std.proofs.Common.{sym, ◌∙◌}
use Rattle.dictionary_meaning_rules.proofs.PlainTagsLaws.{plain_missing, plain_closed}
use Rattle.dictionary_flattening.proofs.tags.plain_tags.Goals as goal

pub returns-in_default : goal.returns-in_default
returns-in_default c = sym (plain_missing _ _ _ _ (sym c.component_of.ensures ∙ c.in_default.is))

pub returns : goal.returns
returns c = c.list_tags.ensures ∙ rw c.from.ensures (sym (plain_closed _ _ _ _ _ (sym c.component_of.ensures ∙ c.in-Some.is)))
