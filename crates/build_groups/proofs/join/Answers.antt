-- `join` meets its contract: a tag that was held makes no record, any other makes one.
use mathlib.Core.Path.{sym, ◌∙◌}
use Rattle.build_group_rules.specs.Reading.{further, standing_in}
use Rattle.build_group_rules.proofs.ReadingLaws.{further-held, further-new}
use Rattle.build_groups.proofs.join.Goals as goal

pub returns-in-Some : goal.returns-in-Some
unfolding standing_in
returns-in-Some c = let e = sym c.store.ensures.value ∙ c.in-Some.is in
    record { value = further-held _ _ _ e; words_after = c.store.ensures.words_after }

pub returns-in-None : goal.returns-in-None
unfolding standing_in further
returns-in-None c = let e = sym c.store.ensures.value ∙ c.in-None.is in
    record { value = further-new _ _ e; words_after = c.store.ensures.words_after }
