-- `build_prepared` meets its contract: what the build leaves is blanked behind the records where anything is written, and stays where nothing is.
use mathlib.Core.Path.{sym, ap, ◌∙◌}
use Rattle.builder.specs.Build.{built_told}
use Rattle.builder.proofs.ReadingLaws.{stays-shown, blanks-shown}
use Rattle.builder.proofs.build_prepared.Goals as goal

pub blank-requires : goal.blank-requires
blank-requires c = (c.build_unblanked-built.ensures.records_le_record_room.1, c.build_unblanked-built.ensures.records_le_record_room.0)

pub returns-then-built-ne0 : goal.returns-then-built-ne0
returns-then-built-ne0 c = ap (built_told _) (c.blank.ensures ∙ sym (blanks-shown _ _ c.if-built-ne0.true)) ∙ c.build_unblanked-built.ensures.words_after

pub returns-else-built-ne0 : goal.returns-else-built-ne0
returns-else-built-ne0 c = ap (built_told _) (sym (stays-shown _ _ c.if-built-ne0.false)) ∙ c.build_unblanked-built.ensures.words_after
