-- `keep` meets its contract: where the tag was held the number of records stays, else there is one more.
-- Each way cites its law of storing.
use mathlib.Core.Path.{sym, ◌∙◌}
use native.Mathlib.Omega.{arith}
use Rattle.build_parts.specs.Parts.{part_of}
use Rattle.build_parts.specs.PartLaws.{keep-held, keep-new}
use Rattle.build_body.proofs.keep.Goals as goal

pub store-requires : goal.store-requires
store-requires c = record { records_in_bounds = (omega arith, c.requires.from_le_records.2); covers = c.requires.covers }

pub returns-in-Some : goal.returns-in-Some
unfolding part_of
returns-in-Some c = record { kept = rw c.store.ensures.words_after (keep-held _ _ _ _ (omega arith) (omega arith) _ (sym c.store.ensures.value ∙ c.in-Some.is)); seen_after = c.store.ensures.seen_after }

pub returns-in-None : goal.returns-in-None
unfolding part_of
returns-in-None c = record { kept = rw c.store.ensures.words_after (keep-new _ _ _ _ (omega arith) (omega arith) (sym c.store.ensures.value ∙ c.in-None.is)); seen_after = c.store.ensures.seen_after }
