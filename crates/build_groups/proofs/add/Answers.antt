-- `add` meets its contract: the record is put in, and both counts rise by one.
use mathlib.Core.Path.{refl}
use Rattle.build_group_rules.specs.Reading.{further}
use Rattle.build_groups.proofs.add.Goals as goal

pub returns : goal.returns
returns c = record { value = unfold further in refl; words_after = c.insert.ensures }
