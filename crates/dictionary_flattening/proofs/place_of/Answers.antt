-- `place_of` meets its contract: a value that names no MsgType has no place, and one that does has that of its name.
use mathlib.Core.Path.{sym, ◌∙◌}
use Rattle.dictionary_meaning_rules.specs.MessageTableLaws.{place_unnamed, place_named_lem}
use Rattle.dictionary_flattening.proofs.place_of.Goals as goal

pub returns-in_default : goal.returns-in_default
returns-in_default c = sym (place_unnamed _ _ (sym c.name_of.ensures ∙ c.in_default.is))

pub returns : goal.returns
returns c = c.message_of.ensures ∙ sym (place_named_lem _ _ _ (sym c.name_of.ensures ∙ c.in-Some.is))
