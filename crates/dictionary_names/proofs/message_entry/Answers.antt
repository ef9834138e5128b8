-- `message_entry` meets its contract.
use mathlib.Core.Path.{refl}
use Rattle.dictionary_rules.specs.Index.{message_entry}
use Rattle.dictionary_names.proofs.message_entry.Goals as goal

pub returns : goal.returns
unfolding message_entry
returns c = refl
