-- `holds` meets its contract: a table holds just what a look-up finds in it.
use mathlib.Core.Path.{sym, ap, ◌∙◌}
use Rattle.dictionary_tables_rules.specs.Tags.{is_item}
use Rattle.dictionary_tables_rules.proofs.TagsLaws.{found-holds}
use Rattle.dictionary_tables.proofs.holds.Goals as goal

pub returns-in-Some : goal.returns-in-Some
unfolding is_item
returns-in-Some c = sym (found-holds _ _ ∙ ap is_item (sym c.item_of.ensures ∙ c.in-Some.is))

pub returns-in-None : goal.returns-in-None
unfolding is_item
returns-in-None c = sym (found-holds _ _ ∙ ap is_item (sym c.item_of.ensures ∙ c.in-None.is))
