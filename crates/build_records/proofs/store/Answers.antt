-- `store` meets its contract: where the tag was held the record is replaced, else it is put in.
-- Each way cites the law of storing.
use mathlib.Core.Path.{sym, ◌∙◌}
use Rattle.build_records.proofs.WordLaws.{on_same}
use Rattle.build_records.proofs.RecordLaws.{between-held, between-new}
use Rattle.build_records.proofs.store.Goals as goal

pub returns-in-Some : goal.returns-in-Some
returns-in-Some c = let h = c.held-standing.ensures in
    let e = sym h ∙ c.in-Some.is in
    record { value = sym e; words_after = c.replace.ensures ∙ on_same _ _ _ (sym (between-held _ _ _ _ _ _ e)) }

pub returns-in-None : goal.returns-in-None
returns-in-None c = let h = c.held-standing.ensures in
    let e = sym h ∙ c.in-None.is in
    record { value = h; words_after = c.insert.ensures ∙ on_same _ _ _ (sym (between-new _ _ _ _ _ e)) }
