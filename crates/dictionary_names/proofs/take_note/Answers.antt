-- `take_note` meets its contract: each note enters its own table.
use mathlib.Core.Path.{◌∙◌}
use Rattle.dictionary_rules.specs.Index.{noted}
use Rattle.dictionary_names.proofs.take_note.Goals as goal

pub returns-in-Unchanged : goal.returns-in-Unchanged
unfolding noted
returns-in-Unchanged c = rw c.in-Unchanged.is

pub returns-in-KnowsTag : goal.returns-in-KnowsTag
returns-in-KnowsTag c = rw c.in-KnowsTag.is c.know_tag.ensures

pub returns-in-ClosesComponent : goal.returns-in-ClosesComponent
unfolding noted
returns-in-ClosesComponent c = rw c.in-ClosesComponent.is (c.enter.ensures ∙ rw c.component_entry.ensures)

pub returns-in-NamesMessage : goal.returns-in-NamesMessage
unfolding noted
returns-in-NamesMessage c = rw c.in-NamesMessage.is (c.enter-in-NamesMessage.ensures ∙ rw c.message_entry.ensures)
