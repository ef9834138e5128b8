-- `tag_entry` meets its contract.
use mathlib.Core.Path.{refl}
use Rattle.dictionary_rules.specs.Index.{tag_entry}
use Rattle.dictionary_names.proofs.tag_entry.Goals as goal

pub returns : goal.returns
unfolding tag_entry
returns c = refl
