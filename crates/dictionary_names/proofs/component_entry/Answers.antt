-- `component_entry` meets its contract.
use mathlib.Core.Path.{refl}
use Rattle.dictionary_rules.specs.Index.{component_entry}
use Rattle.dictionary_names.proofs.component_entry.Goals as goal

pub returns : goal.returns
unfolding component_entry
returns c = refl
