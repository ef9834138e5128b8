-- `record_of` meets its contract: it copies the field's numbers, which fit a word.
use mathlib.Core.Path.{refl}
use Rattle.build_group_rules.specs.Groups.{entry_record}
use Rattle.build_groups.proofs.record_of.Goals as goal

pub returns : goal.returns
unfolding entry_record
returns c = refl
