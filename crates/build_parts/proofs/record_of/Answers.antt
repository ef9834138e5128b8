-- `record_of` meets its contract: place and length fit a word.
use mathlib.Core.Path.{refl}
use Rattle.build_parts.specs.Parts.{part_record}
use Rattle.build_parts.proofs.record_of.Goals as goal

pub returns : goal.returns
unfolding part_record
returns c = refl
