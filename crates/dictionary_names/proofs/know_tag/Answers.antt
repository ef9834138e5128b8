-- `know_tag` meets its contract: what a tag makes known is its entry.
use mathlib.Core.Path.{◌∙◌}
use Rattle.dictionary_rules.specs.Index.{noted}
use Rattle.dictionary_names.proofs.know_tag.Goals as goal

pub returns : goal.returns
unfolding noted
returns c = c.enter.ensures ∙ rw c.tag_entry.ensures
