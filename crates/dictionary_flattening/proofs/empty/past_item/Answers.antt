-- `past_item` meets its contract: behind an item that stands for nothing laying comes to the same; elsewhere nothing is passed.
use mathlib.Core.Path.{sym, ◌∙◌}
use Rattle.dictionary_flattening.proofs.LeapsLaws.{leads_nowhere, leads_past}
use Rattle.dictionary_flattening.proofs.Arms.{read_as}
use Rattle.dictionary_flattening.proofs.empty.past_item.Goals as goal

pub returns-in-None : goal.returns-in-None
returns-in-None c = leads_past (read_as (sym c.record_at.ensures ∙ c.in-Whole.is) c.in-ComponentItem.is)
    (sym c.stands_at.ensures ∙ c.in-None.is)

pub returns-in_default : goal.returns-in_default
returns-in_default c = leads_nowhere

pub returns-in_default-record : goal.returns-in_default-record
returns-in_default-record c = leads_nowhere

pub returns-in-Some : goal.returns-in-Some
returns-in-Some c = leads_nowhere
