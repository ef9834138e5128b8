-- `keep` meets its contract: where the tag was held the number of records stays, else there is one more.
-- Each way cites its law of storing.
use mathlib.Core.Path.{sym, ◌∙◌}
use native.Mathlib.Omega.{arith}
use Rattle.build_parts.specs.PartLaws.{keep-held, keep-new}
use Rattle.build_parts.proofs.keep.Goals as goal

pub returns-in-Some : goal.returns-in-Some
returns-in-Some c = rw c.store.ensures.words_after (keep-held _ _ _ _ (omega arith) (omega arith) _ (sym c.store.ensures.value ∙ c.in-Some.is))

pub returns-in-None : goal.returns-in-None
returns-in-None c = rw c.store.ensures.words_after (keep-new _ _ _ _ (omega arith) (omega arith) (sym c.store.ensures.value ∙ c.in-None.is))
